use Rattle.std.proofs.Common.{ℕ, List, ◌++◌, ap, subst, ◌∙◌}
use Rattle.codeco_terms.specs.GrammarParts.{GrammarParts}
use Rattle.lexicon.specs.Words.{Listed}
use Rattle.logic_terms.specs.Shown.{claims_of}
use Rattle.owl_import.specs.Imported.{MakesLines}
use Rattle.owl_import.specs.Steps.{Written}
use Rattle.owl_import.specs.Words.{no_words, word_lines}
use Rattle.owl_import.proofs.MadeLemmas.{makes_lines}
use Rattle.owl_import.proofs.WordLemmas.{adds_terminals}
use Rattle.owl_import.proofs.importing.made_of.Goals as goal

pub sort_all-requires-clause-terminals : goal.sort_all-requires-clause-terminals
sort_all-requires-clause-terminals c =
    ap (λ (l : Listed). l.terminals) c.words.ensures ∙ adds_terminals (no_words c.in_ok-grammar.grammar) _ c.in_ok-naming.naming c.in_ok-naming.ensures

pub returns : goal.returns
returns c =
    let doc = c.args.doc.now in
    let words = c.words.result.now in
    subst (λ (g : GrammarParts). MakesLines g doc.entities (claims_of doc.axioms) c.lines.inside.requests c.from_vec.result) c.in_ok-grammar.ensures.grammar
    (makes_lines c.in_ok-grammar.grammar doc.entities (claims_of doc.axioms) c.in_ok-naming.naming words c.in_ok-iris.iris c.new-lines.result
    c.sort_all.new.self c.put_words.new.out c.lines.inside.requests c.from_vec.result c.in_ok-naming.ensures c.words.ensures c.in_ok-iris.ensures
    c.new-lines.ensures (c.in_ok-put_words.ensures ∙ ap (λ (l : List ℕ). l ++ word_lines words) c.new-requests.ensures) c.in_ok-sort_all.ensures
    (ap (λ (w : Written). w.requests) c.lines.view_is) (c.from_vec.ensures ∙ ap (λ (w : Written). w.left_out) c.lines.view_is))
