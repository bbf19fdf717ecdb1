use Rattle.std.proofs.Common.{◌≡◌, ℕ, List, [], ◌∷◌, ◌++◌, Bor, Option, Some, None, unwrap_or, refl, sym, ap, ◌∙◌}
use Rattle.std.specs.Option.{option_map_or, option_copied}
use Rattle.wiki_base.specs.declared.numbers.WordId.{WordId}
use Rattle.wiki_base.proofs.ListLaws.{map_take}
use Rattle.lexicon.specs.Words.{canonical_form_of}
use Rattle.wiki_parts.proofs.answering.spelled.Goals as goal

-- a form, or the empty one
form_or_none : (o : Option (Bor (List ℕ))) (other : Bor (List ℕ)) → other.now ≡ [] → (unwrap_or o other).now ≡ option_map_or (λ form. form) (option_copied o) []
form_or_none (Some form) other empty = refl
form_or_none None other empty = empty

pub loop-place-preserved : goal.loop-place-preserved
loop-place-preserved c =
    let form : c.unwrap_or-form.result.now ≡ option_map_or (λ form. form) (canonical_form_of c.args.lexicon.now.live c.get.result) [] =
    ap (λ b. b.now) c.unwrap_or-form.ensures ∙ form_or_none c.spelled.result _ refl ∙ ap (λ o. option_map_or (λ form. form) o []) c.spelled.ensures in
    c.in_ok-push.ensures.ok ∙ rw (c.loop-place.invariant, c.in_ok-from_str.ensures, form)
    (sym (map_take (λ (id : WordId). option_map_or (λ form. form) (canonical_form_of c.args.lexicon.now.live id) []) c.args.names.now c.loop-place.place
    c.get.result c.get.ensures))
