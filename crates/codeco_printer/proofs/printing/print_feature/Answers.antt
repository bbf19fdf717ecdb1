use Rattle.std.proofs.Common.{◌≡◌, ◌||◌, ltb, length, ap, ◌∙◌}
use Rattle.codeco_text.specs.declared.symbols.Sign.TheVariants as sign
use Rattle.codeco_text.specs.declared.symbols.Lexeme.TheVariants as lexeme
use Rattle.codeco_text.specs.Notation.{term_lexemes}
use Rattle.codeco_printer.specs.Unnumbered.{feature_name, written_term, taken_terms, below, with_names}
use Rattle.codeco_printer.specs.Writing.{put, write, opened_feats}
use Rattle.codeco_printer.proofs.WriteLaws.{feature_written, taken_count}
use Rattle.codeco_printer.proofs.printing.print_feature.Goals as goal

pub returns-clause-written : goal.returns-clause-written
returns-clause-written c =
    let g = c.args.grammar.now in
    let taken = c.args.taken.now in
    let n = c.count_below-count.result in
    let front = below c.args.feature (taken_terms taken) in
    let count : n ≡ length front = taken_count taken n front c.count_below-count.ensures.bound c.count_below-count.ensures.below in
    let marked : c.print_marked.new.out ≡ write c.args.out.now (opened_feats c.args.opened (with_names g front)) =
    c.in_ok-print_marked.ensures ∙ ap (λ x. write c.args.out.now (opened_feats c.args.opened (with_names g x))) c.count_below-count.ensures.below in
    let more : c.is_opened.result ≡ (c.args.opened || ltb 0 (length front)) = c.is_opened.ensures ∙ ap (λ k. c.args.opened || ltb 0 k) count in
    let done = feature_written g c.args.opened c.is_opened.result c.args.out.now c.print_marked.new.out front (c.args.feature, written_term g c.args.term)
    marked more in
    c.in_ok-print_term.ensures
    ∙ ap (λ o. write o (term_lexemes (written_term g c.args.term)))
    (c.in_ok-print_feature_name.ensures
    ∙ ap (λ o. put (put o (lexeme.Identifier (feature_name g.features c.args.feature))) (lexeme.Sign sign.Colon)) c.in_ok-print_separator.ensures)
    ∙ done
