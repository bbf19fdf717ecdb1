-- A noun bar and a question introduce their referent, whatever kinds fit the grammar.
use Rattle.std.proofs.Common.{◌≡◌, ℕ, suc, Bool, true, false, cond, List, [], ◌∷◌, ◌++◌, refl, sym, ap, subst, ◌∙◌, arith, eq-eqb, Some}
use Rattle.std.specs.Prelude.{◌==◌, ◌||◌, not, filter, slice_get, Contains, option_and_then}
use Rattle.std.specs.Option.{option_map_or}
use Rattle.std.specs.List.{list_any}
use Rattle.std.proofs.lemmas.Bool.{and_parts, eqb-true}
use Rattle.std.proofs.lemmas.Option.{same_Some}
use Rattle.wiki_base.specs.declared.numbers.WordId.{WordId}
use Rattle.wiki_base.proofs.NumberLaws.{eqb_refl}
use Rattle.codeco_terms.specs.declared.rules.Label.{Label}
use Rattle.codeco_terms.specs.declared.rules.Label.TheVariants as label
use Rattle.codeco_terms.specs.declared.rules.Rule.{Rule}
use Rattle.codeco_terms.specs.GrammarParts.{GrammarParts}
use Rattle.codeco_checked.specs.declared.labels.Kind.{Kind}
use Rattle.codeco_checked.specs.declared.labels.Kind.TheVariants.{Text, Sentence, VerbPhrase, NounPhrase, NounBar, Question, Mark}
use Rattle.codeco_checked.specs.declared.labels.Heads.{Heads}
use Rattle.codeco_checked.specs.declared.labels.Heads.TheVariants.{Only, Clauses, Meanings}
use Rattle.codeco_checked.specs.Labels.{label_row, kind_number, same_kind, same_kinds, is_mark, makes_mark, is_mark_rule, head_fits, children_fit}
use Rattle.derivation_trees.specs.declared.skeletons.Skeleton.{Skeleton, out-Skeleton}
use Rattle.derivation_trees.specs.Derives.{rule_with}
use Rattle.logic_terms.specs.declared.structures.Thing.TheVariants.{Ref}
use Rattle.logic_terms.specs.Structure.{Condition, Structure, structure, referents_in, IsA, AreRelated}
use Rattle.logic_terms.specs.Free.{is_bound}
use Rattle.drs_build.specs.Joining.{◌⊕◌, only, introduced}
use Rattle.drs_build.specs.Meanings.{Meaning, nothing, Made, meaning}
use Rattle.drs_build.specs.Nodes.{is_meant, meaning_in, meant_children, made_in, label_of}
use Rattle.drs_build.proofs.NodeLemmas.{meaning_by}

-- Kinds

-- a noun bar or a question
abbrev pub is_asking : Kind → Bool
is_asking NounBar = true
is_asking Question = true
is_asking _ = false

pub bar_asks : (k : Kind) → same_kind k NounBar ≡ true → is_asking k ≡ true
bar_asks Text h = cc
bar_asks Sentence h = cc
bar_asks VerbPhrase h = cc
bar_asks NounPhrase h = cc
bar_asks NounBar h = refl
bar_asks Question h = refl
bar_asks Mark h = cc

pub question_asks : (k : Kind) → same_kind k Question ≡ true → is_asking k ≡ true
question_asks Text h = cc
question_asks Sentence h = cc
question_asks VerbPhrase h = cc
question_asks NounPhrase h = cc
question_asks NounBar h = refl
question_asks Question h = refl
question_asks Mark h = cc

-- a kind that is the same as one that asks
like_asks : (k head : Kind) → same_kind k head ≡ true → is_asking head ≡ true → is_asking k ≡ true
like_asks k NounBar h a = bar_asks k h
like_asks k Question h a = question_asks k h
like_asks k Text h a = cc
like_asks k Sentence h a = cc
like_asks k VerbPhrase h a = cc
like_asks k NounPhrase h a = cc
like_asks k Mark h a = cc

same_back : (k l : Kind) → same_kind k l ≡ true → same_kind l k ≡ true
same_back k l h = eq-eqb (kind_number l) (kind_number k) (sym (eqb-true (kind_number k) (kind_number l) h))

-- a head that asks fits no row for another kind
wrong : (X : Type 0) (k head : Kind) → is_asking k ≡ false → same_kind head k ≡ true → is_asking head ≡ true → X
wrong X k head other h a = let no : true ≡ false = sym (like_asks k head (same_back head k h) a) ∙ other in absurd cc

clause_wrong : (X : Type 0) (head : Kind) → head_fits Clauses head ≡ true → is_asking head ≡ true → X
clause_wrong X NounBar h a = absurd cc
clause_wrong X Question h a = absurd cc
clause_wrong X Text h a = absurd cc
clause_wrong X Sentence h a = absurd cc
clause_wrong X VerbPhrase h a = absurd cc
clause_wrong X NounPhrase h a = absurd cc
clause_wrong X Mark h a = absurd cc

-- a label is that of marks where the head that it fits is one
mark_same : (heads : Heads) (kind : Kind) → head_fits heads kind ≡ true → makes_mark heads ≡ is_mark kind
mark_same (Only k) kind h = ap (λ n. n == 6) (sym (eqb-true (kind_number kind) (kind_number k) h))
mark_same Clauses Text h = refl
mark_same Clauses Sentence h = refl
mark_same Clauses VerbPhrase h = refl
mark_same Clauses NounPhrase h = refl
mark_same Clauses NounBar h = refl
mark_same Clauses Question h = refl
mark_same Clauses Mark h = cc
mark_same Meanings Text h = refl
mark_same Meanings Sentence h = refl
mark_same Meanings VerbPhrase h = refl
mark_same Meanings NounPhrase h = refl
mark_same Meanings NounBar h = refl
mark_same Meanings Question h = refl
mark_same Meanings Mark h = cc

-- Structures

-- the structure introduces the referent of the meaning
abbrev pub Asks : Meaning → Type 0
Asks m = is_bound (referents_in m.says) m.referent ≡ true

any_left : (p : ℕ) (xs ys : List ℕ) → list_any (λ q. q == p) xs ≡ true → list_any (λ q. q == p) (xs ++ ys) ≡ true
any_left p [] ys h = cc
any_left p (x ∷ xs) ys h = by (x == p) refl (any_left p xs ys)
  where
    by : (b : Bool) → (x == p) ≡ b → (list_any (λ q. q == p) xs ≡ true → list_any (λ q. q == p) (xs ++ ys) ≡ true)
        → list_any (λ q. q == p) (x ∷ (xs ++ ys)) ≡ true
    by true e later = ap (λ b. b || list_any (λ q. q == p) (xs ++ ys)) e
    by false e later = ap (λ b. b || list_any (λ q. q == p) (xs ++ ys)) e ∙ later (sym (ap (λ b. b || list_any (λ q. q == p) xs) e) ∙ h)

left_bound : (k l : Structure) (p : ℕ) → is_bound (referents_in k) p ≡ true → is_bound (referents_in (k ⊕ l)) p ≡ true
left_bound (structure rs cs) (structure qs ds) p h = any_left p rs qs h

here_bound : (p : ℕ) (k : Structure) → is_bound (referents_in (introduced p ⊕ k)) p ≡ true
here_bound p k = left_bound (introduced p) k p (ap (λ b. b || false) (eqb_refl p))

noun_bound : (p : ℕ) (c : Condition) (k : Structure) → is_bound (referents_in ((introduced p ⊕ only c) ⊕ k)) p ≡ true
noun_bound p c k = left_bound (introduced p ⊕ only c) k p (here_bound p (only c))

-- the same as a fact on places
pub contained : (xs : List ℕ) (r : ℕ) → is_bound xs r ≡ true → Contains xs r
contained [] r h = absurd cc
contained (x ∷ xs) r h = by (x == r) refl (contained xs r)
  where
    by : (b : Bool) → (x == r) ≡ b → (is_bound xs r ≡ true → Contains xs r) → Contains (x ∷ xs) r
    by true e later = (0, omega arith, eqb-true x r e)
    by false e later =
        let there : Contains xs r = later (sym (ap (λ b. b || is_bound xs r) e) ∙ h) in
        (suc there.0, omega (arith, there.1), there.2)

-- Children

-- what is known of a phrase with this kind
pub record Good (g : GrammarParts) (sk : Skeleton) (kind : Kind) : Type 0 where
  pub meant : is_meant g (out-Skeleton sk).rule ≡ not (is_mark kind)
  pub asks : is_asking kind ≡ true → (names : List (ℕ × WordId)) → Asks (meaning_in g names sk)
  pub question : label_of g (out-Skeleton sk).rule ≡ Some label.Ask → (names : List (ℕ × WordId)) → Asks (meaning_in g names sk)

abbrev pub AllGood : GrammarParts → List Skeleton → List Kind → Type 0
AllGood g [] [] = Unit {0}
AllGood g [] (k ∷ ks) = ⊥
AllGood g (sk ∷ sks) [] = ⊥
AllGood g (sk ∷ sks) (k ∷ ks) = Good g sk k × AllGood g sks ks

kept_good : (g : GrammarParts) (sks : List Skeleton) (ks : List Kind) → AllGood g sks ks
    → AllGood g (filter (λ c. is_meant g (out-Skeleton c).rule) sks) (filter (λ k. not (is_mark k)) ks)
kept_good g [] [] all = tt
kept_good g [] (k ∷ ks) all = absurd all
kept_good g (sk ∷ sks) [] all = absurd all
kept_good g (sk ∷ sks) (k ∷ ks) all = by (is_meant g (out-Skeleton sk).rule) (not (is_mark k)) all.0.meant (kept_good g sks ks all.1)
  where
    by : (a b : Bool) → a ≡ b → AllGood g (filter (λ c. is_meant g (out-Skeleton c).rule) sks) (filter (λ x. not (is_mark x)) ks)
        → AllGood g (cond a (sk ∷ filter (λ c. is_meant g (out-Skeleton c).rule) sks) (filter (λ c. is_meant g (out-Skeleton c).rule) sks))
        (cond b (k ∷ filter (λ x. not (is_mark x)) ks) (filter (λ x. not (is_mark x)) ks))
    by true true e later = (all.0, later)
    by false false e later = later
    by true false e later = absurd cc
    by false true e later = absurd cc

child_asks : (g : GrammarParts) (sks : List Skeleton) (ks : List Kind) (l : Kind) (ls : List Kind) → AllGood g sks ks → same_kinds ks (l ∷ ls) ≡ true
    → ((k : Kind) → same_kind k l ≡ true → is_asking k ≡ true) → (names : List (ℕ × WordId))
    → Asks (option_map_or (meaning_in g names) (slice_get sks 0) nothing)
child_asks g [] [] l ls all h f names = absurd cc
child_asks g [] (k ∷ ks) l ls all h f names = absurd all
child_asks g (sk ∷ sks) [] l ls all h f names = absurd all
child_asks g (sk ∷ sks) (k ∷ ks) l ls all h f names = all.0.asks (f k (and_parts (same_kind k l) (same_kinds ks ls) h).0) names

-- the first child asks where its kind does
abbrev First : Made → List Kind → Type 0
First m ks = (l : Kind) (ls : List Kind) → same_kinds ks (l ∷ ls) ≡ true → ((k : Kind) → same_kind k l ≡ true → is_asking k ≡ true) → Asks m.first

-- what a label of a noun bar or a question gives
asks_by : (l : Label) (m : Made) (head : Kind) (ks : List Kind) → head_fits (label_row l).heads head ≡ true → children_fit (label_row l).children head ks ≡ true
    → is_asking head ≡ true → First m ks → Asks (meaning l m)
asks_by label.Statement m head ks h c a f = wrong (Asks (meaning label.Statement m)) Text head refl h a
asks_by label.Ask m head ks h c a f = wrong (Asks (meaning label.Ask m)) Text head refl h a
asks_by label.If m head ks h c a f = wrong (Asks (meaning label.If m)) Sentence head refl h a
asks_by label.Say m head ks h c a f = wrong (Asks (meaning label.Say m)) Sentence head refl h a
asks_by label.And m head ks h c a f = clause_wrong (Asks (meaning label.And m)) head h a
asks_by label.Or m head ks h c a f = clause_wrong (Asks (meaning label.Or m)) head h a
asks_by label.Pass m head ks h c a f = f head [] c (λ k e. like_asks k head e a)
asks_by label.Not m head ks h c a f = wrong (Asks (meaning label.Not m)) VerbPhrase head refl h a
asks_by label.Does m head ks h c a f = wrong (Asks (meaning label.Does m)) VerbPhrase head refl h a
asks_by label.Done m head ks h c a f = wrong (Asks (meaning label.Done m)) VerbPhrase head refl h a
asks_by label.Class m head ks h c a f = wrong (Asks (meaning label.Class m)) VerbPhrase head refl h a
asks_by label.Top m head ks h c a f = wrong (Asks (meaning label.Top m)) VerbPhrase head refl h a
asks_by label.Same m head ks h c a f = wrong (Asks (meaning label.Same m)) VerbPhrase head refl h a
asks_by label.Only m head ks h c a f = wrong (Asks (meaning label.Only m)) VerbPhrase head refl h a
asks_by label.Gap m head ks h c a f = wrong (Asks (meaning label.Gap m)) VerbPhrase head refl h a
asks_by label.Name m head ks h c a f = wrong (Asks (meaning label.Name m)) NounPhrase head refl h a
asks_by label.Refer m head ks h c a f = wrong (Asks (meaning label.Refer m)) NounPhrase head refl h a
asks_by label.Var m head ks h c a f = wrong (Asks (meaning label.Var m)) NounPhrase head refl h a
asks_by label.Noun m head ks h c a f = noun_bound m.here (IsA m.word (Ref m.here)) (m.first.on (Ref m.here))
asks_by label.Part m head ks h c a f = here_bound m.here (m.first.around (only (AreRelated m.word (Ref m.here) m.first.term)))
asks_by label.Some m head ks h c a f = wrong (Asks (meaning label.Some m)) NounPhrase head refl h a
asks_by label.Every m head ks h c a f = wrong (Asks (meaning label.Every m)) NounPhrase head refl h a
asks_by label.No m head ks h c a f = wrong (Asks (meaning label.No m)) NounPhrase head refl h a
asks_by label.Something m head ks h c a f = wrong (Asks (meaning label.Something m)) NounPhrase head refl h a
asks_by label.Everything m head ks h c a f = wrong (Asks (meaning label.Everything m)) NounPhrase head refl h a
asks_by label.Nothing m head ks h c a f = wrong (Asks (meaning label.Nothing m)) NounPhrase head refl h a
asks_by label.What m head ks h c a f = here_bound m.here (m.first.on (Ref m.here))
asks_by label.Which m head ks h c a f = left_bound m.first.says (m.second.on (Ref m.first.referent)) m.first.referent (f NounBar (VerbPhrase ∷ []) c bar_asks)
asks_by label.Whichobj m head ks h c a f =
    left_bound m.first.says (m.second.around (only (AreRelated m.word m.second.term (Ref m.first.referent)))) m.first.referent
    (f NounBar (NounPhrase ∷ []) c bar_asks)
asks_by label.Mark m head ks h c a f = wrong (Asks (meaning label.Mark m)) Mark head refl h a

-- a node whose rule fits its label, and whose children are good
pub node_good : (g : GrammarParts) (sk : Skeleton) (r : Rule) (l : Label) (head : Kind) (kinds : List Kind) → rule_with g (out-Skeleton sk).rule ≡ Some r
    → r.label ≡ Some l → head_fits (label_row l).heads head ≡ true → children_fit (label_row l).children head (filter (λ k. not (is_mark k)) kinds) ≡ true
    → AllGood g (out-Skeleton sk).children kinds → Good g sk head
node_good g sk r l head kinds at is heads children all =
    let kept : AllGood g (meant_children g sk) (filter (λ k. not (is_mark k)) kinds) = kept_good g (out-Skeleton sk).children kinds all in
    let named : label_of g (out-Skeleton sk).rule ≡ Some l = ap (option_and_then (λ (x : Rule). x.label)) at ∙ is in
    record {
      meant = ap (λ o. option_map_or (λ (x : Rule). not (is_mark_rule x)) o true) at
          ∙ ap (λ o. not (option_map_or (λ x. makes_mark (label_row x).heads) o false)) is ∙ ap not (mark_same (label_row l).heads head heads);
      asks = λ a names. let P : Meaning → Type 0 = λ m. Asks m in
          subst P (sym (meaning_by g names sk l named))
          (asks_by l (made_in g names sk) head (filter (λ k. not (is_mark k)) kinds) heads children a
          (λ k ks same f. child_asks g (meant_children g sk) (filter (λ x. not (is_mark x)) kinds) k ks kept same f names));
      question = λ q names.
          let same : l ≡ label.Ask = same_Some l label.Ask (sym named ∙ q) in
          let fit : children_fit (label_row label.Ask).children head (filter (λ k. not (is_mark k)) kinds) ≡ true =
          ap (λ x. children_fit (label_row x).children head (filter (λ k. not (is_mark k)) kinds)) (sym same) ∙ children in
          let P : Meaning → Type 0 = λ m. Asks m in
          subst P (sym (meaning_by g names sk label.Ask q))
          (child_asks g (meant_children g sk) (filter (λ k. not (is_mark k)) kinds) Question [] kept fit question_asks names);
    }
