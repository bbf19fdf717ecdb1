use Rattle.std.proofs.Common.{◌≡◌, ℕ, ◌≤◌, List, [], ◌∷◌, ◌++◌, map, filter, length, take, drop, sym, ap, ◌∙◌, subst, arith}
use Rattle.codeco_terms.specs.declared.categories.Ground.{Ground}
use Rattle.lexicon.specs.Readings.{readings_of}
use Rattle.derivations.specs.Entries.{shown, texts_of, functions_in}
use Rattle.chart.specs.Offers.{with_last, terminal_asks, some_follows, used_asks, used_forms, Told}
use Rattle.chart.proofs.OfferLoops.{known_found, told_least, terminals_long}
use Rattle.chart.proofs.offers.add_known.Goals as goal

pub split_at-requires : goal.split_at-requires
split_at-requires c =
    let g = c.args.before.now.grammar.now in
    let t = c.args.before.now.tokens.now in
    let live = c.args.lexicon.now.live in
    let rs = c.args.before.now.used.now in
    let ts = c.as_slice-terminals.result.now in
    let s = with_last g t (map (readings_of live) t) (120 ∷ []) c.none.result in
    let are_asks : c.as_slice.result.now ≡ terminal_asks 0 ts ++ used_asks rs live =
    c.as_slice.ensures ∙ c.in_ok-ask_used.ensures.asks ∙ ap (λ l. l ++ used_asks rs live) c.in_ok-asks.ensures in
    let all : Told s (length t) (terminal_asks 0 ts ++ used_asks rs live) c.as_slice-2.result.now =
    subst (λ x. Told s (length t) x c.as_slice-2.result.now) are_asks
    (subst (Told s (length t) c.as_slice.result.now) (sym c.as_slice-2.ensures) c.in_ok-told.ensures) in
    let least : length (terminal_asks 0 ts) ≤ length c.as_slice-2.result.now =
    told_least s (length t) (terminal_asks 0 ts) (used_asks rs live) c.as_slice-2.result.now all in
    let long : length (terminal_asks 0 ts) ≡ length ts = terminals_long 0 ts in
    omega arith

pub returns : goal.returns
returns c =
    let g = c.args.before.now.grammar.now in
    let t = c.args.before.now.tokens.now in
    let live = c.args.lexicon.now.live in
    let rs = c.args.before.now.used.now in
    let texts = texts_of c.args.texts.now in
    let before = map shown c.args.found.now.items in
    let told = c.as_slice-2.result.now in
    let front = c.split_at.result.0.now in
    let back = c.split_at.result.1.now in
    let forms = map shown c.as_slice-3.result.now in
    let ts_is : c.as_slice-terminals.result.now ≡ g.terminals =
    c.as_slice-terminals.ensures ∙ c.terminals.ensures ∙ ap (λ x. x.terminals) c.grammar.ensures.grammar in
    let count : length c.as_slice-terminals.result.now ≡ length g.terminals = ap (length {A = List ℕ}) ts_is in
    let are_asks : c.as_slice.result.now ≡ terminal_asks 0 g.terminals ++ used_asks rs live =
    c.as_slice.ensures ∙ c.in_ok-ask_used.ensures.asks ∙ ap (λ l. l ++ used_asks rs live) (c.in_ok-asks.ensures ∙ ap (terminal_asks 0) ts_is) in
    let tells : Told (with_last g t (map (readings_of live) t) (120 ∷ []) []) (length t) c.as_slice.result.now told =
    subst (λ (x : List Ground). Told (with_last g t (map (readings_of live) t) (120 ∷ []) x) (length t) c.as_slice.result.now told) c.none.ensures
    (subst (Told (with_last g t (map (readings_of live) t) (120 ∷ []) c.none.result) (length t) c.as_slice.result.now) (sym c.as_slice-2.ensures)
    c.in_ok-told.ensures) in
    let are_forms : forms ≡ used_forms rs live =
    ap (map shown) c.as_slice-3.ensures.value ∙ c.in_ok-ask_used.ensures.forms ∙ ap (λ xs. map shown xs ++ used_forms rs live) c.new-forms.ensures.items in
    let middle : map shown c.add_terminals.new.found.items ≡ before ++ functions_in (filter (λ text. some_follows text g.terminals front) texts) =
    c.in_ok-add_terminals.ensures ∙ ap (λ ts. before ++ functions_in (filter (λ text. some_follows text ts front) texts)) ts_is in
    known_found g live t texts (120 ∷ []) rs c.as_slice.result.now told front back forms before (map shown c.add_terminals.new.found.items)
    (map shown c.add_chosen.new.found.items) c.requires.used are_asks tells (c.split_at.ensures.front ∙ ap (λ n. take n told) count)
    (c.split_at.ensures.back ∙ ap (λ n. drop n told) count) are_forms middle c.in_ok-add_chosen.ensures
