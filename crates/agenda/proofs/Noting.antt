-- What a queue notes of a step fits the branch after it.
use Rattle.std.proofs.Common.{◌≡◌, ℕ, ◌+◌, ◌-◌, ◌==◌, Bool, true, false, List, [], ◌∷◌, ◌++◌, length, Some, None, slice_get, subst, refl, sym, ap, ◌∙◌, inl, inr, arith, length-append}
use Rattle.std.specs.Prelude.{IsTrue, if◌then◌else◌}
use Rattle.std.proofs.lemmas.Bool.{cases_Bool, cases_eq, or_cases, eqb-true, eq-eqb, ne_eqb, cond-false}
use Rattle.std.proofs.lemmas.Option.{same_Some}
use Rattle.wiki_base.proofs.BoolLaws.{not_both}
use Rattle.tableau_rules.proofs.Labels.{get_push_new}
use Rattle.logic_terms.specs.Theory.{Theory}
use Rattle.tableau_rules.specs.declared.branch.Edge.{Edge}
use Rattle.tableau_rules.specs.declared.step.Rule.{Rule}
use Rattle.tableau_rules.specs.declared.step.Step.{Step}
use Rattle.tableau_rules.specs.Branches.{IsBranch}
use Rattle.tableau_rules.specs.Graph.{Graph, Vertex}
use Rattle.tableau_rules.specs.Rules.{applies, with_edge, with_node, after}
use Rattle.agenda.specs.declared.queue.Queue.{Queue}
use Rattle.agenda.proofs.Changes.{Changes}
use Rattle.agenda.specs.Steps.{grown_by, sprouts, reaches_out}
use Rattle.agenda.specs.Views.{is_due, is_waiting, FitsQueue, FollowsQueue, IsPut, NotesLabel, NotesEdge, last_edge}
use Rattle.agenda.proofs.Changing.{ends, same_changes, adding_changes, edge_changes, node_changes}
use Rattle.agenda.proofs.Effects.{IsGrown, growth, linking, sprouting}
use Rattle.agenda.proofs.Fitting.{IsDecided, IsNoted, fits_after}
use Rattle.agenda.proofs.Shapes.{branch_shaped, shaped_neighbours}

decided_one : (x : ℕ) (waits : ℕ → ℕ → Bool) (y : ℕ) → IsDecided (λ z. x == z) waits y
decided_one x waits y = elim (cases_Bool (waits x y)) [
  | inl waited ↦ inl (x, eq-eqb x x refl, waited)
  | inr not_waited ↦ inr (λ z waited. elim (cases_eq x z) [
    | inl same ↦ absurd (not_both (subst (λ w. waits w y ≡ true) (sym same) waited) not_waited)
    | inr other ↦ ne_eqb x z other
  ])
]

-- where one label grew
module _ (h : Graph) (r : Rule) (x : ℕ) (old new : Queue) (notes : NotesLabel h r x old new) (joins : ℕ → Bool)
    (met : reaches_out r ≡ true → (y : ℕ) → joins y ≡ true → IsPut h r new y) where
  label_noted : IsNoted h r (λ y. x == y) joins (is_due old) (is_due new) (is_waiting old) (is_waiting new)
  label_noted = record {
    decided = decided_one x (is_waiting old);
    woken = λ z y grew waited. notes.woken y (subst (λ w. is_waiting old w y ≡ true) (sym (eqb-true x z grew)) waited);
    kept = notes.kept;
    waiting = λ z y still waited. notes.waiting z y (λ same. not_both (eq-eqb x z same) still) waited;
    put = λ y grew. subst (IsPut h r new) (eqb-true x y grew) notes.put;
    met = met;
  }

module _ (k : Theory) (g : Graph) (branch : IsBranch k g) (r : Rule) where
  shaped : Rattle.agenda.proofs.Shapes.IsShaped k g
  shaped = branch_shaped k g branch

  pub grown_fits : (x : ℕ) (h : Graph) (old new : Queue) → IsGrown k g x h → NotesLabel h r x old new → FitsQueue k g r old → FitsQueue k h r new
  grown_fits x h old new grown notes fits =
      fits_after k g h (λ y. x == y) (λ y. false) (change grown) shaped.down (shaped_neighbours k g shaped) r (is_due old) (is_due new) (is_waiting old)
      (is_waiting new)
      (label_noted h r x old new notes (λ y. false) (λ e y joined. cc)) fits
    where
      change : IsGrown k g x h → Changes k g h (λ y. x == y) (λ y. false)
      change (inl same) = subst (λ f. Changes k g f (λ y. x == y) (λ y. false)) (sym same) (same_changes k g (λ y. x == y) (λ y. false))
      change (inr (cs, is)) = subst (λ f. Changes k g f (λ y. x == y) (λ y. false)) (sym is) (adding_changes k g x cs)

  met_ends : (e : Edge) (h : Graph) (new : Queue) → (reaches_out r ≡ true → IsPut h r new e.from × IsPut h r new e.to) → reaches_out r ≡ true → (y : ℕ)
      → ends e y ≡ true
      → IsPut h r new y
  met_ends e h new met is y joined = elim (or_cases (e.from == y) (e.to == y) joined) [
    | inl from ↦ subst (IsPut h r new) (eqb-true e.from y from) (met is).0
    | inr to ↦ subst (IsPut h r new) (eqb-true e.to y to) (met is).1
  ]

  pub linked_fits : (e : Edge) (h : Graph) (old new : Queue) → h ≡ with_edge g e → NotesEdge h r e false old new → FitsQueue k g r old → FitsQueue k h r new
  linked_fits e h old new is notes fits =
      fits_after k g h (λ y. false) (ends e) (subst (λ f. Changes k g f (λ y. false) (ends e)) (sym is) (edge_changes k g e)) shaped.down
      (shaped_neighbours k g shaped) r (is_due old) (is_due new) (is_waiting old) (is_waiting new)
      (record {
        decided = λ y. inr (λ z waited. refl);
        woken = λ z y grew waited. cc;
        kept = notes.kept;
        waiting = λ z y still waited. notes.old_to refl z y waited;
        put = λ y grew. cc;
        met = met_ends e h new notes.met;
      }) fits

  pub sprouted_fits : (v : Vertex) (e : Edge) (h : Graph) (old new : Queue) → e.to ≡ length g.nodes → h ≡ with_node g v e → NotesEdge h r e true old new
      → FitsQueue k g r old → FitsQueue k h r new
  sprouted_fits v e h old new to is notes fits =
      fits_after k g h (λ y. e.to == y) (ends e) (subst (λ f. Changes k g f (λ y. e.to == y) (ends e)) (sym is) (node_changes k g v e to)) shaped.down
      (shaped_neighbours k g shaped) r (is_due old) (is_due new) (is_waiting old) (is_waiting new)
      (label_noted h r e.to old new (notes.new_to refl) (ends e) (met_ends e h new notes.met)) fits

-- the edge that was added last
last_of : (es : List Edge) (e : Edge) (g : Graph) → g.edges ≡ es ++ e ∷ [] → last_edge g ≡ Some e
last_of es e g is =
    ap (λ l. if length l == 0 then None else slice_get l (length l - 1)) is
    ∙ (cond-false (length (es ++ e ∷ []) == 0) None (slice_get (es ++ e ∷ []) (length (es ++ e ∷ []) - 1))
    (some_more (length es) (length (es ++ e ∷ [])) (length-append es (e ∷ [])))
    ∙ (ap (slice_get (es ++ e ∷ [])) (last_place (length es) (length (es ++ e ∷ [])) (length-append es (e ∷ []))) ∙ get_push_new es e))
  where
    some_more : (n m : ℕ) → m ≡ n + 1 → (m == 0) ≡ false
    some_more n m is = ne_eqb m 0 (pos n m is)
      where
        pos : (n m : ℕ) → m ≡ n + 1 → m ≡ 0 → ⊥
        pos n m is none = omega arith

    last_place : (n m : ℕ) → m ≡ n + 1 → m - 1 ≡ n
    last_place n m is = omega arith

pub linked_last : (g h : Graph) (e : Edge) → h ≡ with_edge g e → last_edge h ≡ Some e
linked_last g h e is = last_of g.edges e h (ap (λ f. f.edges) is)

pub sprouted_last : (g h : Graph) (v : Vertex) (e : Edge) → h ≡ with_node g v e → last_edge h ≡ Some e
sprouted_last g h v e is = last_of g.edges e h (ap (λ f. f.edges) is)

-- where a step added an edge
pub follows_edge : (k : Theory) (s : Step) (h : Graph) (r : Rule) (old new : Queue) (e : Edge) → grown_by s ≡ None → last_edge h ≡ Some e
    → NotesEdge h r e (sprouts s.rule) old new → FollowsQueue k s h r old new
follows_edge k s h r old new e none last notes g choice branch on is fits = go (sprouts s.rule) refl notes
  where
    go : (b : Bool) → sprouts s.rule ≡ b → NotesEdge h r e b old new → FitsQueue k h r new
    go true kind noted =
        let it = sprouting k g s choice kind on in
        let same : it.edge ≡ e = same_Some it.edge e (sym (sprouted_last g h it.node it.edge (is ∙ it.is)) ∙ last) in
        sprouted_fits k g branch r it.node it.edge h old new it.to (is ∙ it.is) (subst (λ d. NotesEdge h r d true old new) (sym same) noted) fits
    go false kind noted =
        let it = linking k g s choice none kind on in
        let same : it.edge ≡ e = same_Some it.edge e (sym (linked_last g h it.edge (is ∙ it.is)) ∙ last) in
        linked_fits k g branch r it.edge h old new (is ∙ it.is) (subst (λ d. NotesEdge h r d false old new) (sym same) noted) fits

-- a step that adds no class adds an edge
pub has_last : (k : Theory) (g : Graph) (s : Step) (choice : ℕ) (h : Graph) → grown_by s ≡ None → IsTrue (applies k g s) → h ≡ after k g s choice
    → last_edge h ≡ None → ⊥
has_last k g s choice h none on is last = go (sprouts s.rule) refl
  where
    go : (b : Bool) → sprouts s.rule ≡ b → ⊥
    go true kind = (let it = sprouting k g s choice kind on in let some : None ≡ Some it.edge = sym last ∙ sprouted_last g h it.node it.edge (is ∙ it.is) in cc)
    go false kind = (let it = linking k g s choice none kind on in let some : None ≡ Some it.edge = sym last ∙ linked_last g h it.edge (is ∙ it.is) in cc)

pub follows_none : (k : Theory) (s : Step) (h : Graph) (r : Rule) (old new : Queue) → grown_by s ≡ None → last_edge h ≡ None → FollowsQueue k s h r old new
follows_none k s h r old new none last g choice branch on is fits = absurd (has_last k g s choice h none on is last)

pub follows_label : (k : Theory) (s : Step) (h : Graph) (r : Rule) (old new : Queue) (x : ℕ) → grown_by s ≡ Some x → NotesLabel h r x old new
    → FollowsQueue k s h r old new
follows_label k s h r old new x some notes g choice branch on is fits =
    grown_fits k g branch r x h old new (subst (IsGrown k g x) (sym is) (growth k g s choice x some)) notes fits
