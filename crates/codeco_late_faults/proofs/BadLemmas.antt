-- A bad rule, from tests of its features in one list.
use Rattle.std.proofs.Common.{◌≡◌, ℕ, Bool, true, false, not, ◌&&◌, ◌||◌, List, [], ◌∷◌, map, refl, sym, ap, ◌∙◌}
use Rattle.std.specs.List.{list_any, flat_map}
use Rattle.std.proofs.lemmas.Grind.{flat_map-append}
use Rattle.std.proofs.lemmas.List.Folds.{list_any-append}
use Rattle.std.proofs.lemmas.Bool.{or_left, or_right}
use Rattle.std.proofs.Math.Bool.{or-false as or_none}
use Rattle.codeco_terms.specs.declared.values.Term.{Term}
use Rattle.codeco_terms.specs.declared.values.Term.TheVariants.{Var}
use Rattle.codeco_terms.specs.declared.categories.Category.{Category}
use Rattle.codeco_terms.specs.declared.categories.Pattern.{Pattern}
use Rattle.codeco_terms.specs.declared.elements.Element.{Element}
use Rattle.codeco_terms.specs.declared.elements.Element.TheVariants.{Terminal, Preterminal, Sub, Position, Opener, Forward, Strong, Back, NoBack}
use Rattle.codeco_terms.specs.declared.rules.Rule.{Rule}
use Rattle.codeco_terms.specs.GrammarParts.{GrammarParts}
use Rattle.codeco_checked.specs.Occurrences.{whole, mentions, rule_features, positions, term_variables}
use Rattle.codeco_terms.specs.declared.declarations.Declared.TheVariants as declared
use Rattle.codeco_checked.specs.Numbering.{has}
use Rattle.codeco_checked.specs.Faults as faults
use Rattle.codeco_late_faults.specs.Tables.{has_wrong_atom, is_mixed, has_mixed_variable, is_misplaced}
use Rattle.codeco_late_faults.specs.Writing.{pattern_feats, element_feats, rule_feats}
use Rattle.codeco_late_faults.proofs.MarkLemmas.{append_nil}
use Rattle.codeco_late_faults.proofs.PutLemmas.{taken_any}
use Rattle.codeco_late_faults.proofs.MixedLemmas.{any_same}

abbrev feats_in : List Category → List (ℕ × Term)
feats_in cs = flat_map (λ c. c.feats) cs

pattern_same : (p : ℕ × Term → Bool) (q : Pattern) → list_any p (pattern_feats q) ≡ list_any p (whole q).feats
pattern_same p q = list_any-append p q.cat.feats (map (λ t. (t.0, Var t.1)) q.taken) ∙ sym (taken_any p q.cat.feats q.taken)

patterns_same : (p : ℕ × Term → Bool) (qs : List Pattern) → list_any p (flat_map pattern_feats qs) ≡ list_any p (feats_in (map whole qs))
patterns_same p [] = refl
patterns_same p (q ∷ qs) =
    list_any-append p (pattern_feats q) (flat_map pattern_feats qs)
    ∙ ap (λ b. b || list_any p (flat_map pattern_feats qs)) (pattern_same p q)
    ∙ ap (λ b. list_any p (whole q).feats || b) (patterns_same p qs)
    ∙ sym (list_any-append p (whole q).feats (feats_in (map whole qs)))

one_same : (p : ℕ × Term → Bool) (c : Category) → list_any p c.feats ≡ list_any p (feats_in (c ∷ []))
one_same p c = ap (list_any p) (sym (append_nil c.feats))

element_same : (p : ℕ × Term → Bool) (e : Element) → list_any p (element_feats e) ≡ list_any p (feats_in (mentions e))
element_same p (Terminal t) = refl
element_same p (Preterminal c) = one_same p c
element_same p (Sub c) = one_same p c
element_same p (Position x) = refl
element_same p Opener = refl
element_same p (Forward c) = one_same p c
element_same p (Strong c) = one_same p c
element_same p (Back ps ns) =
    list_any-append p (flat_map pattern_feats ps) (flat_map pattern_feats ns)
    ∙ ap (λ b. b || list_any p (flat_map pattern_feats ns)) (patterns_same p ps)
    ∙ ap (λ b. list_any p (feats_in (map whole ps)) || b) (patterns_same p ns)
    ∙ sym (list_any-append p (feats_in (map whole ps)) (feats_in (map whole ns)))
    ∙ ap (list_any p) (sym (flat_map-append (λ (c : Category). c.feats) (map whole ps) (map whole ns)))
element_same p (NoBack ps) = patterns_same p ps

body_same : (p : ℕ × Term → Bool) (es : List Element) → list_any p (flat_map element_feats es) ≡ list_any p (feats_in (flat_map mentions es))
body_same p [] = refl
body_same p (e ∷ es) =
    list_any-append p (element_feats e) (flat_map element_feats es)
    ∙ ap (λ b. b || list_any p (flat_map element_feats es)) (element_same p e)
    ∙ ap (λ b. list_any p (feats_in (mentions e)) || b) (body_same p es)
    ∙ sym (list_any-append p (feats_in (mentions e)) (feats_in (flat_map mentions es)))
    ∙ ap (list_any p) (sym (flat_map-append (λ (c : Category). c.feats) (mentions e) (flat_map mentions es)))

-- a test passes for one of the features of a rule where it does for one of the list
rule_same : (p : ℕ × Term → Bool) (r : Rule) → list_any p (rule_feats r) ≡ list_any p (rule_features r)
rule_same p r =
    list_any-append p r.head.feats (flat_map element_feats r.body) ∙ ap (λ b. list_any p r.head.feats || b) (body_same p r.body)
    ∙ sym (list_any-append p r.head.feats (feats_in (flat_map mentions r.body)))

atom_same : (g : GrammarParts) (r : Rule) → has_wrong_atom g (rule_feats r) ≡ faults.has_wrong_atom g r
atom_same g r = rule_same (λ f. not (faults.fits_declared (faults.values_of g f.0) f.1)) r

mixed_same : (g : GrammarParts) (r : Rule) → has_mixed_variable g (rule_feats r) ≡ faults.has_mixed_variable g r
mixed_same g r =
    any_same (λ f. list_any (is_mixed g f) (rule_feats r)) (λ f. list_any (is_mixed g f) (rule_features r)) (rule_feats r) (λ f. rule_same (is_mixed g f) r)
    ∙ rule_same (λ f. list_any (is_mixed g f) (rule_features r)) r

misplaced_same : (g : GrammarParts) (r : Rule) → list_any (is_misplaced g (rule_feats r)) (flat_map positions r.body) ≡ faults.has_wrong_position g r
misplaced_same g r =
    any_same (is_misplaced g (rule_feats r)) (is_misplaced g (rule_features r)) (flat_map positions r.body)
    (λ x. rule_same (λ f. has (term_variables f.1) x && not (faults.same_values (faults.values_of g f.0) declared.Positions)) r)

pub bad_double : (g : GrammarParts) (r : Rule) → faults.has_double_feature r ≡ true → true ≡ faults.is_bad_rule g r
bad_double g r h =
    sym (or_left (((faults.has_wrong_atom g r || faults.has_mixed_variable g r) || faults.has_wrong_position g r) || faults.has_double_feature r)
    (faults.has_wrong_preterminal g r)
    (or_right ((faults.has_wrong_atom g r || faults.has_mixed_variable g r) || faults.has_wrong_position g r) (faults.has_double_feature r) h))

pub bad_others : (g : GrammarParts) (r : Rule) (feats : List (ℕ × Term)) (body : List Element) (found : Bool) → faults.has_double_feature r ≡ false
    → feats ≡ rule_feats r → body ≡ r.body
    → found ≡ (((has_wrong_atom g feats || has_mixed_variable g feats) || list_any (is_misplaced g feats) (flat_map positions body))
    || list_any (faults.is_wrong_preterminal g) (flat_map faults.preterminals body)) → found ≡ faults.is_bad_rule g r
bad_others g r feats body found single is same h =
    h
    ∙ ap (λ fs. ((has_wrong_atom g fs || has_mixed_variable g fs) || list_any (is_misplaced g fs) (flat_map positions body))
    || list_any (faults.is_wrong_preterminal g) (flat_map faults.preterminals body)) is
    ∙ ap (λ es. ((has_wrong_atom g (rule_feats r) || has_mixed_variable g (rule_feats r)) || list_any (is_misplaced g (rule_feats r)) (flat_map positions es))
    || list_any (faults.is_wrong_preterminal g) (flat_map faults.preterminals es)) same
    ∙ ap (λ b. ((b || has_mixed_variable g (rule_feats r)) || list_any (is_misplaced g (rule_feats r)) (flat_map positions r.body))
    || faults.has_wrong_preterminal g r) (atom_same g r)
    ∙ ap (λ b. ((faults.has_wrong_atom g r || b) || list_any (is_misplaced g (rule_feats r)) (flat_map positions r.body)) || faults.has_wrong_preterminal g r)
    (mixed_same g r)
    ∙ ap (λ b. ((faults.has_wrong_atom g r || faults.has_mixed_variable g r) || b) || faults.has_wrong_preterminal g r) (misplaced_same g r)
    ∙ ap (λ b. b || faults.has_wrong_preterminal g r)
    (sym (or_none ((faults.has_wrong_atom g r || faults.has_mixed_variable g r) || faults.has_wrong_position g r)))
    ∙ ap (λ b. (((faults.has_wrong_atom g r || faults.has_mixed_variable g r) || faults.has_wrong_position g r) || b) || faults.has_wrong_preterminal g r)
    (sym single)
