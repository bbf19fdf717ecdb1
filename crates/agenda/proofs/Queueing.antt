-- What the steps of a queue's changes give together.
use Rattle.std.proofs.Common.{Less, Equal, Greater, ◌≡◌, ℕ, ◌+◌, ◌<◌, ◌≤◌, ◌==◌, ◌⊎◌, Bool, true, false, List, [], ◌∷◌, cond, length, Option, Some, None, subst, refl, sym, ap, ◌∙◌, inl, inr, arith}
use Rattle.std.specs.Prelude.{nat_lt, IfSome, IsSome}
use Rattle.std.specs.List.{list_any}
use Rattle.std.specs.Borrow.{Bor}
use Rattle.std.specs.Option.{option_copied}
use Rattle.std.specs.BTreeMap.{is_at}
use Rattle.std.specs.BTreeSet.{BTreeSet, contains, IsLowerBound}
use Rattle.std.specs.Ordering.{nat_cmp, is_eq}
use Rattle.std.proofs.lemmas.Bool.{cases_eq, ne_eqb}
use Rattle.std.proofs.lemmas.Map.Keys.{le_from_not_gt}
use Rattle.std.proofs.lemmas.Option.{same_Some}
use Rattle.wiki_base.proofs.BoolLaws.{not_both}
use Rattle.logic_terms.specs.Theory.{Theory}
use Rattle.tableau_rules.specs.declared.branch.Edge.{Edge}
use Rattle.tableau_rules.specs.declared.step.Rule.{Rule}
use Rattle.tableau_rules.specs.Branches.{IsBranch}
use Rattle.tableau_rules.specs.Graph.{Graph, label_at}
use Rattle.agenda.specs.declared.queue.Queue.{Queue}
use Rattle.agenda.specs.Resting.{IsResting, Fits}
use Rattle.agenda.specs.Steps.{reaches_out}
use Rattle.agenda.specs.Views.{is_listed, Lists, is_due, is_waiting, FitsQueue, IsPut, NotesLabel, Meets, NotesEdge}
use Rattle.agenda.proofs.Fitting.{rest_more}
use Rattle.agenda.proofs.Shapes.{branch_shaped, shaped_neighbours}

-- each due node stays due
abbrev pub KeepsDue : Queue → Queue → Type 0
KeepsDue old new = (x : ℕ) → is_due old x ≡ true → is_due new x ≡ true

abbrev pub KeepsWaiting : Queue → Queue → Type 0
KeepsWaiting old new = (z x : ℕ) → is_waiting old z x ≡ true → is_waiting new z x ≡ true

pub same_waiting : (old new : Queue) → new.waiting ≡ old.waiting → KeepsWaiting old new
same_waiting old new same z x h = ap (λ w. is_listed w.items z x) same ∙ h

pub still_put : (g : Graph) (r : Rule) (old new : Queue) → KeepsDue old new → (x : ℕ) → IsPut g r old x → IsPut g r new x
still_put g r old new kept x (inl on) = inl (kept x on)
still_put g r old new kept x (inr apart) = inr apart

-- one node more
pub put_more : (g : Graph) (r : Rule) (old new : Queue) (n : ℕ) → ((x : ℕ) → x < n → IsPut g r old x) → KeepsDue old new → IsPut g r new n → (x : ℕ) → x < n + 1
    → IsPut g r new x
put_more g r old new n before kept here x lt = elim (cases_eq x n) [
  | inl same ↦ subst (IsPut g r new) (sym same) here
  | inr other ↦ still_put g r old new kept x (before x (omega arith))
]

pub full_fits : (g : Graph) (r : Rule) (q : Queue) (n : ℕ) → length g.nodes ≤ n → ((x : ℕ) → x < n → IsPut g r q x) → (k : Theory) → FitsQueue k g r q
full_fits g r q n le all k x lt = go (all x (omega arith))
  where
    go : IsPut g r q x → (is_due q x ≡ true) ⊎ ((Rattle.agenda.specs.Resting.concerns r (label_at g x) ≡ false) ⊎ IsResting k g (is_waiting q) r x)
    go (inl on) = inl on
    go (inr apart) = inr (inl apart)

pub notes_label : (g : Graph) (r : Rule) (x : ℕ) (old mid new : Queue) → ((y : ℕ) → is_waiting old x y ≡ true → is_due mid y ≡ true) → KeepsDue old mid
    → ((z y : ℕ) → (x ≡ z → ⊥) → is_waiting old z y ≡ true → is_waiting mid z y ≡ true) → KeepsDue mid new → new.waiting ≡ mid.waiting → IsPut g r new x
    → NotesLabel g r x old new
notes_label g r x old mid new woken kept waiting later same put = record {
  woken = λ y h. later y (woken y h);
  kept = λ y h. later y (kept y h);
  waiting = λ z y other h. same_waiting mid new same z y (waiting z y other h);
  put = put;
}

pub meets_none : (g : Graph) (r : Rule) (e : Edge) (q : Queue) → reaches_out r ≡ false → Meets g r e q q
meets_none g r e q other = record {
  kept = λ y h. h;
  waiting = λ z y h. h;
  met = λ is. absurd (not_both is other);
}

pub meets_both : (g : Graph) (r : Rule) (e : Edge) (old mid new : Queue) → KeepsDue old mid → mid.waiting ≡ old.waiting → IsPut g r mid e.from
    → KeepsDue mid new → new.waiting ≡ mid.waiting → IsPut g r new e.to → Meets g r e old new
meets_both g r e old mid new kept same from later again to = record {
  kept = λ y h. later y (kept y h);
  waiting = λ z y h. same_waiting mid new again z y (same_waiting old mid same z y h);
  met = λ is. (still_put g r mid new later e.from from, to);
}

pub notes_old : (g : Graph) (r : Rule) (e : Edge) (old new : Queue) → Meets g r e old new → NotesEdge g r e false old new
notes_old g r e old new meets = record {
  kept = meets.kept;
  met = meets.met;
  old_to = λ same. meets.waiting;
  new_to = λ yes_new. cc;
}

pub notes_new : (g : Graph) (r : Rule) (e : Edge) (old mid new : Queue) → Meets g r e old mid → NotesLabel g r e.to mid new → NotesEdge g r e true old new
notes_new g r e old mid new meets notes = record {
  kept = λ y h. notes.kept y (meets.kept y h);
  met = λ is. (still_put g r mid new notes.kept e.from (meets.met is).0, still_put g r mid new notes.kept e.to (meets.met is).1);
  old_to = λ off. cc;
  new_to = λ is. record {
    woken = λ y h. notes.woken y (meets.waiting e.to y h);
    kept = λ y h. notes.kept y (meets.kept y h);
    waiting = λ z y other h. notes.waiting z y other (meets.waiting z y h);
    put = notes.put;
  };
}

-- a node that rests is no longer due
pub settled : (k : Theory) (g : Graph) (r : Rule) (old : Queue) (due : BTreeSet ℕ) (waiting : List (List ℕ)) (node : ℕ) → IsBranch k g → FitsQueue k g r old
    → Lists old.waiting.items waiting → IsResting k g (is_listed waiting) r node
    → ((x : ℕ) → (x ≡ node → ⊥) → is_due old x ≡ true → contains nat_cmp due x ≡ true) → Fits k g r (contains nat_cmp due) (is_listed waiting)
settled k g r old due waiting node branch fits more rests kept x lt = elim (cases_eq x node) [
  | inl same ↦ inr (inr (subst (IsResting k g (is_listed waiting) r) (sym same) rests))
  | inr other ↦ elim (fits x lt) [
    | inl on ↦ inl (kept x other on)
    | inr (inl apart) ↦ inr (inl apart)
    | inr (inr old_rests) ↦
        let shaped = branch_shaped k g branch in
        inr (inr (rest_more k g shaped.down (shaped_neighbours k g shaped) r (is_waiting old) (is_listed waiting) more x lt old_rests))
  ]
]

-- another key is not found
pub other_key : (node x : ℕ) → (x ≡ node → ⊥) → is_at (nat_cmp node) x ≡ false
other_key node x other = go (nat_lt node x) (node == x) refl
  where
    apart : (node == x) ≡ false
    apart = ne_eqb node x (λ same. other (sym same))

    go : (less same : Bool) → (node == x) ≡ same → is_eq (cond less Less (cond same Equal Greater)) ≡ false
    go true same at = refl
    go false true at = sym at ∙ apart
    go false false at = refl

pub least_key : (due : BTreeSet ℕ) (node : ℕ) → IsLowerBound nat_cmp due node → (q : ℕ) → contains nat_cmp due q ≡ true → node ≤ q
least_key due node least q on = le_from_not_gt node q (least q on)

pub from_copied : (o : Option (Bor ℕ)) (P : ℕ → Type 0) (n : ℕ) → Some n ≡ option_copied o → IfSome o (λ k. P k.now) → P n
from_copied None P n e h = cc
from_copied (Some b) P n e h = subst P (same_Some b.now n (sym e)) h

pub not_some : (o : Option (Bor ℕ)) → None ≡ option_copied o → IsSome o → ⊥
not_some None e h = cc
not_some (Some b) e h = cc

pub no_keys : (ks : List ℕ) → (0 < length ks → ⊥) → (q : ℕ) → list_any (is_at (nat_cmp q)) ks ≡ false
no_keys [] none q = refl
no_keys (x ∷ xs) none q = absurd (none (omega arith))
