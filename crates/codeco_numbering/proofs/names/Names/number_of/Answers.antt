use Rattle.std.proofs.Common.{◌≡◌, ◌≤◌, ℕ, List, length, sym, ap, subst, ◌∙◌}
use Rattle.std.specs.Option.{unwrap_or}
use Rattle.codeco_numbering.specs.Numbered.{number_of}
use Rattle.codeco_numbering.proofs.NameTables.{found_number, number_most}
use Rattle.codeco_numbering.proofs.names.Names.number_of.Goals as goal

pub returns-clause-number : goal.returns-clause-number
returns-clause-number c =
    c.unwrap_or.ensures
    ∙ (λ i. unwrap_or (c.get_index_of.ensures.index i) (c.len.ensures.len i))
    ∙ found_number (λ v. v.items) c.args.name.now c.self.inside.set.keys
    ∙ ap (λ (names : List (List ℕ)). number_of names c.args.name.now) c.self.view_is

pub returns-clause-most : goal.returns-clause-most
returns-clause-most c =
    let is : c.unwrap_or.result ≡ number_of c.args.self.now c.args.name.now = returns-clause-number c in
    subst (λ n. n ≤ length c.args.self.now) (sym is) (number_most c.args.self.now c.args.name.now)
