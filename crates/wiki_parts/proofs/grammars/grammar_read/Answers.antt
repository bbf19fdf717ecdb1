use Rattle.std.proofs.Common.{◌∙◌, ℕ, List, [], ◌∷◌, sym, subst}
use Rattle.codeco_reader.specs.Texts.{IsTextOf}
use Rattle.wiki_talk.specs.declared.refusals.Refusal.TheVariants.{Bare}
use Rattle.wiki_parts.specs.declared.faults.Fault.TheVariants.{Refused}
use Rattle.wiki_parts.specs.Faults.{IsFault}
use Rattle.plain_wiki.specs.Causes.{FirstOf, is_no_grammar, is_bare}
use Rattle.wiki_parts.proofs.GrammarLemmas.{read_in_size, no_grammar, bare_grammar}
use Rattle.wiki_parts.proofs.grammars.grammar_read.Goals as goal

pub returns-then-is_labelled-clause-only : goal.returns-then-is_labelled-clause-only
returns-then-is_labelled-clause-only c = λ other is.
    let here : IsTextOf c.as_str.result.now other = subst (λ (text : List ℕ). IsTextOf text other) (sym c.as_str.ensures.value) is in
    sym (c.in-Ok.ensures.accepts other here.in_size here.makes here.faultless)

pub returns-else-is_labelled-clause-refused : goal.returns-else-is_labelled-clause-refused
returns-else-is_labelled-clause-refused c =
    let text = c.as_str.result.now in
    let g = c.in-Ok.grammar in
    let is : IsTextOf text g = record {
      in_size = read_in_size text c.read_grammar.result g c.in-Ok.is c.read_grammar.ensures.size;
      makes = c.in-Ok.ensures.grammar;
      faultless = c.in-Ok.ensures.faultless;
    } in
    subst (λ (spelled : List ℕ). IsFault (FirstOf (is_no_grammar spelled ∷ is_bare spelled ∷ [])) (Refused Bare)) c.as_str.ensures.value
    (bare_grammar text g is (sym c.is_labelled.ensures ∙ c.if-is_labelled.false))

pub returns-in-Err-clause-refused : goal.returns-in-Err-clause-refused
returns-in-Err-clause-refused c =
    subst (λ (spelled : List ℕ). IsFault (FirstOf (is_no_grammar spelled ∷ is_bare spelled ∷ [])) c.refused_for.result) c.as_str.ensures.value
    (no_grammar c.as_str.result.now c.read_grammar.result c.in-Err.fault c.refused_for.result c.in-Err.is c.read_grammar.ensures.size c.in-Err.ensures.fault
    c.read_grammar.ensures.accepts c.refused_for.ensures.refused c.refused_for.ensures.memory)
