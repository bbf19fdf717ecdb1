-- Heads that are told for values, and their copies for asks.
use Rattle.std.proofs.Common.{◌≡◌, ℕ, ◌+◌, ◌<◌, ◌≤◌, List, [], ◌∷◌, ◌++◌, length, take, get_or, Some, refl, sym, ap, ◌∙◌, subst, inl, inr}
use Rattle.std.specs.Prelude.{slice_get, All, true, ◌⊎◌}
use Rattle.std.proofs.lemmas.Option.{slice_get-get_or}
use Rattle.std.proofs.lemmas.List.{take_all}
use Rattle.wiki_base.proofs.ListLaws.{take_get_or}
use Rattle.codeco_terms.specs.declared.categories.Category.{Category}
use Rattle.codeco_terms.specs.declared.rules.Rule.{Rule}
use Rattle.derivation_trees.specs.Settings.{Setting}
use Rattle.derivation_trees.specs.Instances.{feats_under, is_instance}
use Rattle.chart_table.specs.declared.states.Cut.{Cut}
use Rattle.chart_table.specs.declared.states.Told.{Told}
use Rattle.chart_table.specs.Branches.{OneOf, AnyExtends, meeting}
use Rattle.chart_table.specs.Cuts.{HasCut, HasHeads, IsOf, HasOneMore, HasCopies, IsTold, IsTelling}
use Rattle.chart_table.proofs.BranchLemmas.{Binds}
use Rattle.chart_table.proofs.OneOfLemmas.{one_left, one_front, one_last}
use Rattle.chart_table.proofs.TableLemmas.{all_slice, slice_end}

-- the one that was looked at tells what the values tell
pub telling_here : (told : List Told) (i : ℕ) (one : Told) (values : Binds) → i < length told → one ≡ get_or told i one → one.values ≡ values
    → IsTelling told i values
telling_here told i one values lt is same = record { one = one; is = slice_get-get_or told i one lt ∙ ap Some (sym is); values_are = same }

-- a new one at the end tells what its values tell
pub telling_new : (told : List Told) (one : Told) (values : Binds) → one.values ≡ values → IsTelling (told ++ one ∷ []) (length told) values
telling_new told one values same = record { one = one; is = slice_end told one; values_are = same }

-- the heads of the one that tells
pub telling_heads : (s : Setting) (rule : Rule) (c : Category) (bound : Binds) (told : List Told) (number : ℕ) (one : Told) (values : Binds)
    → All (IsTold s rule c bound) told → IsTelling told number values → slice_get told number ≡ Some one
    → HasHeads s rule (IsOf 0 (meeting values c.feats (bound ∷ []))) [] one.heads
telling_heads s rule c bound told number one values all t is =
    let same : t.one ≡ one = same_of (sym t.is ∙ is) in
    subst (λ (o : Told). HasHeads s rule (IsOf 0 (meeting values c.feats (bound ∷ []))) [] o.heads) same
    (subst (λ vs. HasHeads s rule (IsOf 0 (meeting vs c.feats (bound ∷ []))) [] t.one.heads) t.values_are
    (all_slice (IsTold s rule c bound) told number t.one all t.is))
  where
    same_of : {a b : Told} → Some a ≡ Some b → a ≡ b
    same_of e = cc

-- copies

pub copies_none : (number : ℕ) (cuts : List Cut) → HasCopies number [] cuts cuts
copies_none number cuts = record { kept = λ j values h. h; new = λ e h. absurd h; only = λ j values h. inl h }

-- a head that is there already
pub copies_there : (number : ℕ) (head : Cut) (cuts : List Cut) → HasCut cuts number head.values → HasCopies number (head ∷ []) cuts cuts
copies_there number head cuts there = record { kept = λ j values h. h; new = λ e h. found e h; only = λ j values h. inl h }
  where
    found : (e : Cut) → OneOf (head ∷ []) e → HasCut cuts number e.values
    found e (inl same) = subst (λ (x : Cut). HasCut cuts number x.values) same there
    found e (inr h) = absurd h

-- a head that is added
pub copies_added : (number : ℕ) (head : Cut) (values : Binds) (before after : List Cut) → values ≡ head.values → HasOneMore number values before after
    → HasCopies number (head ∷ []) before after
copies_added number head values before after same more = record {
  kept = more.kept;
  new = λ e h. found e h;
  only = λ j vs h. told j vs (more.only j vs h);
}
  where
    found : (e : Cut) → OneOf (head ∷ []) e → HasCut after number e.values
    found e (inl is) = subst (HasCut after number) (same ∙ ap (λ (x : Cut). x.values) is) more.new
    found e (inr h) = absurd h

    told : (j : ℕ) (vs : Binds) → HasCut before j vs ⊎ ((j ≡ number) × (vs ≡ values))
        → HasCut before j vs ⊎ ((j ≡ number) × ((e : Cut) × OneOf (head ∷ []) e × (e.values ≡ vs)))
    told j vs (inl h) = inl h
    told j vs (inr h) = inr (h.0, (head, inl refl, sym (h.1 ∙ same)))

-- one more head
pub copies_turn : (number : ℕ) (heads : List Cut) (i : ℕ) (head : Cut) (first before after : List Cut) → i < length heads → head ≡ get_or heads i head
    → HasCopies number (take i heads) first before → HasCopies number (head ∷ []) before after → HasCopies number (take (i + 1) heads) first after
copies_turn number heads i head first before after lt is a b = subst (λ hs. HasCopies number hs first after) (sym (take_get_or heads i head lt is)) (record {
  kept = λ j values h. b.kept j values (a.kept j values h);
  new = λ e h. found e (one_front (take i heads) head e h);
  only = λ j values h. told j values (b.only j values h);
})
  where
    found : (e : Cut) → OneOf (take i heads) e ⊎ (head ≡ e) → HasCut after number e.values
    found e (inl h) = b.kept number e.values (a.new e h)
    found e (inr same) = b.new e (inl same)

    last : (e : Cut) → OneOf (head ∷ []) e → OneOf (take i heads ++ head ∷ []) e
    last e (inl same) = subst (OneOf (take i heads ++ head ∷ [])) same (one_last (take i heads) head)
    last e (inr h) = absurd h

    earlier : (j : ℕ) (values : Binds) → HasCut first j values ⊎ ((j ≡ number) × ((e : Cut) × OneOf (take i heads) e × (e.values ≡ values)))
        → HasCut first j values ⊎ ((j ≡ number) × ((e : Cut) × OneOf (take i heads ++ head ∷ []) e × (e.values ≡ values)))
    earlier j values (inl h) = inl h
    earlier j values (inr h) = inr (h.0, (h.1.0, one_left h.1.0 (take i heads) (head ∷ []) h.1.1, h.1.2))

    told : (j : ℕ) (values : Binds) → HasCut before j values ⊎ ((j ≡ number) × ((e : Cut) × OneOf (head ∷ []) e × (e.values ≡ values)))
        → HasCut first j values ⊎ ((j ≡ number) × ((e : Cut) × OneOf (take i heads ++ head ∷ []) e × (e.values ≡ values)))
    told j values (inl h) = earlier j values (a.only j values h)
    told j values (inr h) = inr (h.0, (h.1.0, last h.1.0 h.1.1, h.1.2))

pub copies_done : (number : ℕ) (heads : List Cut) (i : ℕ) (first after : List Cut) → length heads ≤ i → HasCopies number (take i heads) first after
    → HasCopies number heads first after
copies_done number heads i first after le h = subst (λ hs. HasCopies number hs first after) (take_all i heads le) h

-- copies of the heads that assignments tell are the heads that they tell for the ask
pub copies_tell : (s : Setting) (rule : Rule) (bounds : List Binds) (number : ℕ) (heads before after : List Cut) → HasHeads s rule (IsOf 0 bounds) [] heads
    → HasCopies number heads before after → HasHeads s rule (IsOf number bounds) before after
copies_tell s rule bounds number heads before after told copies = record {
  kept = copies.kept;
  new = λ j v instance of. found j v of (told.new 0 v instance (refl, of.1));
  only = λ j values h. back j values (copies.only j values h);
}
  where
    found : (j : ℕ) (v : Binds) → IsOf number bounds j v → HasCut heads 0 (feats_under v rule.head.feats) → HasCut after j (feats_under v rule.head.feats)
    found j v of h = subst (λ n. HasCut after n (feats_under v rule.head.feats)) (sym of.0) (subst (HasCut after number) h.3 (copies.new h.0 h.1))

    from : (e : Cut) → OneOf heads e → HasCut [] e.ask e.values ⊎ ((v : Binds) × (is_instance s rule v ≡ true) × IsOf 0 bounds e.ask v ×
        (e.values ≡ feats_under v rule.head.feats))
        → (v : Binds) × (is_instance s rule v ≡ true) × AnyExtends v bounds × (e.values ≡ feats_under v rule.head.feats)
    from e one (inl h) = absurd h.1
    from e one (inr h) = (h.0, h.1, h.2.1, h.3)

    back : (j : ℕ) (values : Binds) → HasCut before j values ⊎ ((j ≡ number) × ((e : Cut) × OneOf heads e × (e.values ≡ values)))
        → HasCut before j values ⊎ ((v : Binds) × (is_instance s rule v ≡ true) × IsOf number bounds j v × (values ≡ feats_under v rule.head.feats))
    back j values (inl h) = inl h
    back j values (inr h) =
        let e = h.1.0 in
        let r = from e h.1.1 (told.only e.ask e.values (e, h.1.1, refl, refl)) in
        inr (r.0, r.1, (h.0, r.2), sym h.1.2 ∙ r.3)
