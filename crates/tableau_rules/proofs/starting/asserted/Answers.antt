use Rattle.std.proofs.Common.{◌≡◌, ℕ, ◌<◌, List, map, length, get_or, None, sym, ap, ◌∙◌}
use Rattle.std.specs.Option.{option_map}
use Rattle.std.proofs.lemmas.Option.{slice_get-map, get_or_from_slice_get}
use Rattle.logic_terms.specs.Known.{theory_of}
use Rattle.logic_terms.specs.Shown.{concept_of}
use Rattle.logic_terms.specs.Theory.{representative}
use Rattle.tableau_rules.proofs.MapWalks.{stands_at}
use Rattle.tableau_rules.proofs.starting.asserted.Goals as goal

-- an item of a list that was made of another in two steps
made_twice : {X Y Z : Type 0} (f : Y → Z) (g : X → Y) (xs : List X) (i : ℕ) (x : X) (d : Z) → i < length xs → x ≡ get_or xs i x
    → get_or (map f (map g xs)) i d ≡ f (g x)
made_twice f g xs i x d lt at =
    get_or_from_slice_get (map f (map g xs)) i (f (g x)) d
    (slice_get-map f (map g xs) i ∙ ap (option_map f) (stands_at g xs i x lt at))

pub is_owned-requires : goal.is_owned-requires
is_owned-requires c =
    ap (λ owners. get_or owners c.loop-place.place None)
    (c.requires ∙ ap (map (λ e. representative (theory_of c.args.k.now) e.0)) (sym c.assertions-entries.ensures))
    ∙ made_twice (λ e. representative (theory_of c.args.k.now) e.0) (λ e. (e.0, concept_of e.1)) c.assertions-entries.result.now c.loop-place.place
    c.index-entries-place.result None c.loop-place-test.true c.index-entries-place.is
