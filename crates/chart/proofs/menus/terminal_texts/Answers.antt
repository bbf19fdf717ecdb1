use Rattle.std.proofs.Common.{◌≡◌, ℕ, ◌+◌, ◌<◌, List, [], ◌∷◌, ◌++◌, All, length, take, get_or, true, ap, subst, sym, ◌∙◌, Bor}
use Rattle.std.specs.List.{list_all}
use Rattle.std.specs.Str.{IsUtf8}
use Rattle.codeco_text.specs.Names.{is_terminal}
use Rattle.wiki_base.specs.Token.{IsToken}
use Rattle.derivations.specs.Entries.{texts_of, AreTexts}
use Rattle.derivations.proofs.TypingLemmas.{are_more, are_skipped, tokens_more, spelled_at}
use Rattle.derivations.proofs.TokenLemmas.{terminal_token}
use Rattle.chart.proofs.menus.terminal_texts.Goals as goal
use Rattle.chart.proofs.menus.terminal_texts.Goals.{in-Ok+in_ok-push, in_default}

pub loop-terminal-preserved : goal.loop-terminal-preserved
loop-terminal-preserved c =
    let all = c.args.grammar.now.terminals in
    let i = c.loop-terminal.terminal-index in
    let t = c.terminal-item.result in
    let old = c.loop-terminal.texts.items in
    let listed : c.as_slice-terminal-items.result.now ≡ all =
    c.as_slice-terminal-items.ensures ∙ c.terminals.ensures ∙ ap (λ g. g.terminals) c.grammar.ensures.grammar in
    let is : t ≡ get_or all i t = c.terminal-item.is ∙ ap (λ ts. get_or ts i t) listed in
    let lt : i < length all = subst (λ ts. i < length ts) listed c.loop-terminal-test.true in
    let written : list_all is_terminal all ≡ true = c.grammar.ensures.sound.written.terminals in
    let Kept : List (Bor (List ℕ)) → Type 0 = λ ts. All IsToken (texts_of ts) × AreTexts (texts_of ts) (take (i + 1) all) in
    elim c.match-from_utf8.branch [
      | in-Ok+in_ok-push w ↦
          let text : w.in-Ok.text.now ≡ t = w.in-Ok.ensures.cases.0 ∙ c.as_slice.ensures in
          let whole : c.match-from_utf8.texts.items ≡ old ++ w.in-Ok.text ∷ [] = ap (λ v. v.items) w.texts-is ∙ w.in_ok-push.ensures.items in
          subst Kept (sym whole) (
            tokens_more old w.in-Ok.text c.loop-terminal.invariant.0
                (subst IsToken (sym text) (terminal_token t (spelled_at all i t written lt is))),
            are_more old w.in-Ok.text all i t lt is text c.loop-terminal.invariant.1,
          )
      | in_default w ↦
          let same : c.match-from_utf8.texts.items ≡ old = ap (λ v. v.items) w.texts-is in
          subst Kept (sym same) (
            c.loop-terminal.invariant.0,
            are_skipped (texts_of old) all i t lt is (λ utf8. w.in_default.ensures.cases.0 (subst IsUtf8 (sym c.as_slice.ensures) utf8))
                c.loop-terminal.invariant.1,
          )
    ]
