use Rattle.std.proofs.Common.{◌≡◌, true, get_or, sym, ap, ◌∙◌, subst}
use Rattle.std.specs.List.{list_all}
use Rattle.std.proofs.lemmas.Bool.{and_parts}
use Rattle.logic_terms.specs.Plain.{is_plain, are_plain}
use Rattle.logic_terms.specs.Shown.{concept_of, claims_of}
use Rattle.absorb.specs.Mentioned.{names_in, is_among, are_over}
use Rattle.owl_eval.specs.Checked.{kept_claims}
use Rattle.answers.proofs.AskedLemmas.{among_at}
use Rattle.answers.proofs.DenyingLemmas.{AreDenied, denied_more}
use Rattle.answers.proofs.denying.all_denied.Goals as goal
use Rattle.answers.proofs.denying.all_denied.Goals.{then-branch+in_ok-copied+in_ok-push, else-branch}

pub loop-name-preserved : goal.loop-name-preserved
loop-name-preserved c =
    let q = c.args.question.now in
    let ns = c.as_slice-name-items.result.now in
    let names = q.names.now in
    let claims = kept_claims q.kept.now in
    let class = concept_of q.class.now in
    let name = get_or ns c.loop-name.name-index (record { 0 = 0 }) in
    let among : is_among names name ≡ true =
    ap (λ all. is_among all name) (sym c.as_slice-name-items.ensures.names) ∙ among_at ns c.loop-name.name-index (record { 0 = 0 }) c.loop-name-test.true in
    let inside = (and_parts (are_over names claims) (list_all (is_among names) (names_in class)) c.requires.over).1 in
    let plain = (and_parts (are_plain claims) (is_plain class) c.requires.plain).1 in
    elim c.if-branch.branch [
      | then-branch+in_ok-copied+in_ok-push w ↦ denied_more names claims (claims_of c.loop-name.axioms) (claims_of c.if-branch.axioms) class
          (concept_of w.in_ok-copied.copied) name c.loop-name.invariant (ap claims_of w.axioms-is ∙ w.in_ok-push.ensures.ok)
          (w.in_ok-copied.ensures ∙ c.requires.denial) among inside plain
      | else-branch w ↦ subst (AreDenied names claims) (sym (ap claims_of w.axioms-is)) c.loop-name.invariant
    ]
