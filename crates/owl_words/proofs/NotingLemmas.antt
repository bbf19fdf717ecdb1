-- A number that is noted at a key.
use Rattle.std.proofs.Common.{◌≡◌, ℕ, Bool, true, false, cond, ◌⊎◌, inl, inr, List, Some, Option, String, string_bytes, OnOk, OnErr, refl, sym, subst, ◌∙◌}
use Rattle.std.specs.Prelude.{Result, Ok, Err}
use Rattle.std.specs.Map.{lookup}
use Rattle.std.specs.HashMap.{get_by_text, UpdatesBy}
use Rattle.std.specs.Str.{bytes_eq}
use Rattle.std.specs.String.{string_eq}
use Rattle.std.specs.declared.alloc.Global.{Global}
use Rattle.std.proofs.lemmas.Map.Text.{is_text, hash_map_updates_text}
use Rattle.std.proofs.lemmas.Option.{same_Some}
use Rattle.std.proofs.lemmas.Slice.Eq.{bytes_eq-Decides}
use Rattle.owl_words.specs.Known.{Counts, Notes}

-- the number was inserted at the key, or nothing changed
pub notes : {E : Type 0} (old new : Counts) (at : String Global) (count : ℕ) (inserted : Result (Option ℕ) E)
    → OnOk inserted (UpdatesBy string_eq (string_eq at) old new (Some count)) → OnErr inserted (new.entries ≡ old.entries)
    → Notes old (string_bytes at) count new
notes old new at count (Ok before) updates same = λ text n found.
    by text n (bytes_eq (string_bytes at) text) ((bytes_eq-Decides (string_bytes at) text).0)
    (sym (hash_map_updates_text (string_bytes at) old new (Some count) updates text) ∙ found)
  where
    by : (text : List ℕ) (n : ℕ) (here : Bool) → (here ≡ true → string_bytes at ≡ text) → cond here (Some count) (get_by_text old text) ≡ Some n
        → (get_by_text old text ≡ Some n) ⊎ ((text ≡ string_bytes at) × (n ≡ count))
    by text n true is found = inr (sym (is refl), sym (same_Some count n found))
    by text n false is found = inl found
notes old new at count (Err failed) updates same = λ text n found.
    inl (subst (λ es. lookup (is_text text) es ≡ Some n) same found)
