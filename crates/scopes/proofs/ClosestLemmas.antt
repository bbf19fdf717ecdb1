-- What a reference finds in a list with one more entry, and in one list after another.
use Rattle.std.proofs.Common.{◌≡◌, List, [], ◌∷◌, ◌++◌, Option, Some, None, refl, sym, ap, ◌∙◌, unwrap_or}
use Rattle.std.specs.Option.{option_or}
use Rattle.std.specs.List.{filter_map, cons_option}
use Rattle.std.proofs.lemmas.List.Elements.{filter_map-append}
use Rattle.std.proofs.lemmas.List.{append-nil}
use Rattle.scopes.specs.declared.entries.Entry.{Entry}
use Rattle.scopes.specs.declared.agreement.Tests.{Tests}
use Rattle.scopes.specs.Resolution.{Finding, finding, closest_finding, last_of}

pub last_of-push : {X : Type 0} (xs : List X) (x : X) → last_of (xs ++ x ∷ []) ≡ Some x
last_of-push [] x = refl
last_of-push (y ∷ ys) x = ap (λ o. Some (unwrap_or o y)) (last_of-push ys x)

-- the last of what is found, with what the newest entry gives
last_with : (o : Option Finding) (xs : List Finding) → last_of (xs ++ cons_option o []) ≡ option_or o (last_of xs)
last_with None xs = ap last_of (append-nil xs)
last_with (Some f) xs = last_of-push xs f

pub closest_push : (tests : Tests) (xs : List Entry) (e : Entry) → closest_finding tests (xs ++ e ∷ []) ≡ option_or (finding tests e) (closest_finding tests xs)
closest_push tests xs e =
    ap last_of (filter_map-append (finding tests) xs (e ∷ [])) ∙ last_with (finding tests e) (filter_map (finding tests) xs)

-- where the newest entry gives something, the list finds it
pub found_newest : (tests : Tests) (older all : List Entry) (e : Entry) (f : Finding) → Some f ≡ finding tests e
    → closest_finding tests (older ++ e ∷ []) ≡ closest_finding tests all → Some f ≡ closest_finding tests all
found_newest tests older all e f here same =
    ap (λ o. option_or o (closest_finding tests older)) here ∙ sym (closest_push tests older e) ∙ same

-- where it gives nothing, the older entries decide
pub passed_newest : (tests : Tests) (older all : List Entry) (e : Entry) → None ≡ finding tests e
    → closest_finding tests (older ++ e ∷ []) ≡ closest_finding tests all → closest_finding tests older ≡ closest_finding tests all
passed_newest tests older all e here same =
    ap (λ o. option_or o (closest_finding tests older)) here ∙ sym (closest_push tests older e) ∙ same

later : (o p : Option Finding) (x : Finding) → Some (unwrap_or (option_or o p) x) ≡ option_or o (Some (unwrap_or p x))
later None p x = refl
later (Some f) p x = refl

none_before : (o : Option Finding) → o ≡ option_or o None
none_before None = refl
none_before (Some f) = refl

last_both : (xs ys : List Finding) → last_of (xs ++ ys) ≡ option_or (last_of ys) (last_of xs)
last_both [] ys = none_before (last_of ys)
last_both (x ∷ xs) ys = ap (λ o. Some (unwrap_or o x)) (last_both xs ys) ∙ later (last_of ys) (last_of xs) x

closest_both : (tests : Tests) (xs ys : List Entry) → closest_finding tests (xs ++ ys) ≡ option_or (closest_finding tests ys) (closest_finding tests xs)
closest_both tests xs ys =
    ap last_of (filter_map-append (finding tests) xs ys) ∙ last_both (filter_map (finding tests) xs) (filter_map (finding tests) ys)

-- where the newer list gives something, both together find it
pub found_newer : (tests : Tests) (older newer all : List Entry) (f : Finding) → Some f ≡ closest_finding tests newer
    → closest_finding tests (older ++ newer) ≡ closest_finding tests all → Some f ≡ closest_finding tests all
found_newer tests older newer all f here same =
    ap (λ o. option_or o (closest_finding tests older)) here ∙ sym (closest_both tests older newer) ∙ same

-- where it gives nothing, the older list decides
pub passed_newer : (tests : Tests) (older newer all : List Entry) → None ≡ closest_finding tests newer
    → closest_finding tests (older ++ newer) ≡ closest_finding tests all → closest_finding tests older ≡ closest_finding tests all
passed_newer tests older newer all here same =
    ap (λ o. option_or o (closest_finding tests older)) here ∙ sym (closest_both tests older newer) ∙ same
