use Rattle.std.proofs.Common.{◌≡◌, ◌++◌, ap, sym, subst, ◌∙◌}
use Rattle.std.specs.String.{string_bytes}
use Rattle.std.specs.Str.{IsUtf8}
use Rattle.std.proofs.lemmas.Str.{IsUtf8-string_bytes}
use Rattle.derivation_trees.specs.Cutting.{cut_of, shown}
use Rattle.derivation_trees.proofs.PieceLemmas.{cut_shown}
use Rattle.derivation_trees.proofs.WordLemmas.{cut_shown_words}
use Rattle.derivation_trees.proofs.showing.show.Goals as goal

bytes : (c : goal.After-from_string) → c.from_string.result ≡ string_bytes c.push_tokens.new.text
bytes c = c.from_string.ensures

exact : (c : goal.After-from_string) → c.from_string.result ≡ shown c.args.grammar.now.terminals c.args.tokens.now
exact c =
    bytes c ∙ c.in_ok-push_tokens.ensures ∙ ap (λ x. x ++ shown c.terminals.result.now c.as_slice.result.now) c.new-text.ensures.bytes
    ∙ ap (λ x. shown x c.as_slice.result.now) c.terminals.ensures ∙ ap (shown c.args.grammar.now.terminals) c.as_slice.ensures

utf8 : (c : goal.After-from_string) → IsUtf8 c.from_string.result
utf8 c = subst IsUtf8 (sym (bytes c)) (IsUtf8-string_bytes c.push_tokens.new.text)

pub returns-clause-utf8 : goal.returns-clause-utf8
returns-clause-utf8 c = utf8 c

pub returns-clause-again : goal.returns-clause-again
returns-clause-again c h =
    ap (cut_of c.args.grammar.now.terminals) (exact c) ∙ cut_shown c.args.grammar.now.terminals c.args.tokens.now h.1 h.2

pub returns-clause-words : goal.returns-clause-words
returns-clause-words c sound words =
    ap (cut_of c.args.grammar.now.terminals) (exact c) ∙ cut_shown_words c.args.grammar.now c.args.tokens.now sound (subst IsUtf8 (exact c) (utf8 c)) words
