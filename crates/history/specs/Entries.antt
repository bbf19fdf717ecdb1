-- Changes that may be taken back, and changes that were taken back: of each what stood before it.
use Rattle.std.specs.Prelude.{List, [], ◌∷◌, take, drop, refl}
use Rattle.std.specs.Coded.{Coded, code_by, coded×, coded_list}
use Rattle.history.specs.declared.kept.Kept.{Kept}
use Rattle.history.specs.declared.history.TheConstants.{MOST_ENTRIES}

-- both, the newest first
pub record Entries : Type 0 where
  pub past : List Kept
  pub future : List Kept

-- they are stored as the pair of the two lists
abbrev pub entries_code : Coded Kept → Coded Entries
entries_code kept =
    code_by (List Kept × List Kept) (coded× (coded_list kept) (coded_list kept)) (λ e. (e.past, e.future))
    (λ p. record { past = p.0; future = p.1 }) (λ _. refl)

-- no changes
abbrev pub no_entries : Entries
no_entries = record { past = []; future = [] }

-- a change is done: the newest 100 of the past stay, and none can be done again
abbrev pub with_change : Kept → Entries → Entries
with_change before entries = record { past = take MOST_ENTRIES (before ∷ entries.past); future = [] }

-- the newest change is taken back, and what stood until now can be done again
abbrev pub taken_back : Kept → Entries → Entries
taken_back now entries = record { past = drop 1 entries.past; future = now ∷ entries.future }

-- the newest change that was taken back is done again, and what stood until now can be taken back
abbrev pub done_again : Kept → Entries → Entries
done_again now entries = record { past = now ∷ entries.past; future = drop 1 entries.future }
