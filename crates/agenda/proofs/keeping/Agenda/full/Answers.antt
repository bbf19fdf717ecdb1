use Rattle.agenda.proofs.keeping.Agenda.full.Goals as goal

pub returns : goal.returns
returns c k = record {
  ands = c.in_ok-full.ensures k;
  unfoldings = c.in_ok-full-2.ensures k;
  alls = c.in_ok-full-3.ensures k;
  transes = c.in_ok-full-4.ensures k;
  values = c.in_ok-full-5.ensures k;
  units = c.in_ok-full-6.ensures k;
  ors = c.in_ok-full-7.ensures k;
  somes = c.in_ok-full-8.ensures k;
}
