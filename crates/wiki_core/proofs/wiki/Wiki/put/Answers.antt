use Rattle.std.proofs.Common.{◌≡◌, ◌<◌, [], ◌∷◌, ◌++◌, length, Err, sym, ap, subst, ◌∙◌}
use Rattle.codeco_terms.specs.GrammarParts.{GrammarParts}
use Rattle.lexicon.specs.Words.{Listed}
use Rattle.wiki_base.specs.declared.tokens.TheConstants.{MOST_TOKENS}
use Rattle.editor.specs.declared.faults.TypeFault.{TypeFault}
use Rattle.editor.specs.declared.faults.TypeFault.TheVariants as faults
use Rattle.editor.specs.Editing.{typed}
use Rattle.plain_wiki.specs.Sessions.{session_of}
use Rattle.sessions.specs.Sessions.{all_plain, AreKept}
use Rattle.plain_wiki.specs.Places.{session_numbered}
use Rattle.wiki_core.proofs.NamedLemmas.{and_so}
use Rattle.wiki_core.proofs.SessionLemmas.{refuses_text}
use Rattle.wiki_core.proofs.HeldLemmas.{held_typed}
use Rattle.wiki_core.proofs.wiki.Wiki.put.Goals as goal
use Rattle.wiki_core.proofs.wiki.Wiki.put.Goals.{in-Ok, in-Err-NotOffered+in_ok-copy-in-Err-NotOffered, in-Err-Memory}

pub invariant_of-self : goal.invariant_of-self
invariant_of-self c =
    let stored = c.self.inside.store.state in
    let new = c.type_token-typed.new.self in
    held_typed stored c.self.inside.sessions new c.self.inside.last (record { 0 = c.args.number })
    (λ tokens. tokens ++ typed c.grammar.result.now.terminals tokens c.as_str.result.now ∷ []) c.type_token-typed.result c.self.invariant
    (subst (λ (g : GrammarParts). AreKept g stored.words new) c.grammar.ensures
    (subst (λ (words : Listed). AreKept c.grammar.result.now words new) c.lexicon.ensures c.type_token-typed.ensures.kept))
    c.type_token-typed.ensures.typed c.type_token-typed.ensures.unchanged

pub invariant_of-self-2 : goal.invariant_of-self-2
invariant_of-self-2 c =
    let stored = c.self.inside.store.state in
    let new = c.type_token-typed.new.self in
    held_typed stored c.self.inside.sessions new c.self.inside.last (record { 0 = c.args.number })
    (λ tokens. tokens ++ typed c.grammar.result.now.terminals tokens c.as_str.result.now ∷ []) c.type_token-typed.result c.self.invariant
    (subst (λ (g : GrammarParts). AreKept g stored.words new) c.grammar.ensures
    (subst (λ (words : Listed). AreKept c.grammar.result.now words new) c.lexicon.ensures c.type_token-typed.ensures.kept))
    c.type_token-typed.ensures.typed c.type_token-typed.ensures.unchanged

pub returns-clause-refused : goal.returns-clause-refused
returns-clause-refused c = elim c.match-typed.branch [
  | in-Ok w ↦ rw w.result-is tt
  | in-Err-NotOffered+in_ok-copy-in-Err-NotOffered w ↦
      let same = rw w.in-Err-NotOffered.is at w.in-Err-NotOffered.field-0-is in
      let is : c.type_token-typed.result ≡ Err faults.NotOffered = w.in-Err-NotOffered.is ∙ ap (λ (f : TypeFault). Err f) same in
      rw (w.result-is, sym c.self.view_is)
      (refuses_text c.self.inside.store.state (session_of (all_plain c.self.inside.sessions) (record { 0 = c.args.number }))
      c.grammar.result.now c.lexicon.result.now c.args.text.now c.as_str.result.now w.in_ok-copy-in-Err-NotOffered.field-0 c.grammar.ensures c.lexicon.ensures
      c.as_str.ensures.value w.in_ok-copy-in-Err-NotOffered.ensures (c.type_token-typed.ensures.refused is))
  | in-Err-Memory w ↦
      rw w.result-is (and_so (session_numbered c.args.self.now.state c.args.number) (λ session. length session.tokens < MOST_TOKENS) (λ session. Unit {0})
      (λ session few. tt) c.requires)
]
