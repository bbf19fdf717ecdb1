use Rattle.std.proofs.Common.{◌≡◌, ◌+◌, [], ◌∷◌, ◌++◌, get_or, take, sym, ap, ◌∙◌, subst}
use Rattle.std.proofs.lemmas.List.{take_more}
use Rattle.logic_terms.specs.Names.{names_rise}
use Rattle.logic_terms.specs.Shown.{concept_of}
use Rattle.absorb.specs.Mentioned.{is_among}
use Rattle.owl_eval.specs.Checked.{kept_interp, kept_claims}
use Rattle.answers.specs.Single.{Answered}
use Rattle.answers.proofs.AskedLemmas.{among_at, all_below, not_before, asked_as, asked_all, one_yes, one_unknown, one_no}
use Rattle.answers.proofs.asking.each_decided.Goals as goal
use Rattle.answers.proofs.asking.each_decided.Goals.{in-Yes+in_ok-push-in-Yes, in-Unknown+in_ok-push-in-Unknown, in-No}

pub decided-requires-clause-given : goal.decided-requires-clause-given
decided-requires-clause-given c =
    let ns = c.as_slice-name-items.result.now in
    ap (λ names. is_among names (get_or ns c.loop-name.name-index (record { 0 = 0 }))) (sym c.as_slice-name-items.ensures.names)
    ∙ among_at ns c.loop-name.name-index (record { 0 = 0 }) c.loop-name-test.true

pub push-requires : goal.push-requires
push-requires c =
    let ns = c.as_slice-name-items.result.now in
    all_below ns (ap names_rise c.as_slice-name-items.ensures.names ∙ c.as_slice-name-items.ensures.rising) c.loop-name.name-index (record { 0 = 0 })
    c.loop-name-test.true
    c.loop-name.yes c.loop-name.invariant.given_yes

pub push-requires-in-Unknown : goal.push-requires-in-Unknown
push-requires-in-Unknown c =
    let ns = c.as_slice-name-items.result.now in
    all_below ns (ap names_rise c.as_slice-name-items.ensures.names ∙ c.as_slice-name-items.ensures.rising) c.loop-name.name-index (record { 0 = 0 })
    c.loop-name-test.true
    c.loop-name.unknown c.loop-name.invariant.given_unknown

pub loop-name-preserved : goal.loop-name-preserved
loop-name-preserved c =
    let q = c.args.question.now in
    let ns = c.as_slice-name-items.result.now in
    let i = c.loop-name.name-index in
    let name = get_or ns i (record { 0 = 0 }) in
    let kept = kept_interp q.kept.now in
    let claims = kept_claims q.kept.now in
    let class = concept_of q.class.now in
    let fresh = not_before ns (ap names_rise c.as_slice-name-items.ensures.names ∙ c.as_slice-name-items.ensures.rising) i (record { 0 = 0 })
    c.loop-name-test.true in
    let more : take (i + 1) ns ≡ take i ns ++ name ∷ [] = take_more ns i (record { 0 = 0 }) c.loop-name-test.true in
    elim c.match-branch-2.branch [
      | in-Yes+in_ok-push-in-Yes w ↦ asked_as kept claims q.names.now q.budget class more (w.yes-is ∙ w.in_ok-push-in-Yes.ensures.ok) w.unknown-is
          (one_yes kept claims q.names.now q.budget class (take i ns) c.loop-name.yes c.loop-name.unknown c.loop-name.invariant name fresh
          (subst (Answered kept claims q.names.now q.budget class name) w.in-Yes.is c.in_ok-decided.ensures))
      | in-Unknown+in_ok-push-in-Unknown w ↦
          (let told = subst (Answered kept claims q.names.now q.budget class name) w.in-Unknown.is c.in_ok-decided.ensures in
          asked_as kept claims q.names.now q.budget class more w.yes-is (w.unknown-is ∙ w.in_ok-push-in-Unknown.ensures.ok)
          (one_unknown kept claims q.names.now q.budget class (take i ns) c.loop-name.yes c.loop-name.unknown c.loop-name.invariant name fresh told.0
          told.1))
      | in-No w ↦ asked_as kept claims q.names.now q.budget class more w.yes-is w.unknown-is
          (one_no kept claims q.names.now q.budget class (take i ns) c.loop-name.yes c.loop-name.unknown c.loop-name.invariant name fresh
          (subst (Answered kept claims q.names.now q.budget class name) w.in-No.is c.in_ok-decided.ensures))
    ]

pub returns-clause-others : goal.returns-clause-others
returns-clause-others c =
    let q = c.args.question.now in
    let so_far = asked_all (kept_interp q.kept.now) (kept_claims q.kept.now) q.names.now q.budget (concept_of q.class.now)
    c.as_slice-name-items.result.now c.loop-name.name-index c.loop-name.yes c.loop-name.unknown
    c.as_slice-name-items.ensures.names c.loop-name-test.false c.loop-name.invariant in
    so_far.others

pub returns-clause-given : goal.returns-clause-given
returns-clause-given c =
    let q = c.args.question.now in
    let so_far = asked_all (kept_interp q.kept.now) (kept_claims q.kept.now) q.names.now q.budget (concept_of q.class.now)
    c.as_slice-name-items.result.now c.loop-name.name-index c.loop-name.yes c.loop-name.unknown
    c.as_slice-name-items.ensures.names c.loop-name-test.false c.loop-name.invariant in
    (so_far.given_yes, so_far.given_unknown)
