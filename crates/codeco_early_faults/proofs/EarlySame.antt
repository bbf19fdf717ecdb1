-- The first of the early faults, from the tests of declarations and rules as they are written.
use Rattle.std.proofs.Common.{◌≡◌, ℕ, ◌≤◌, true, false, ◌&&◌, ◌||◌, eqb, ltb, List, length, Some, sym, ap, ◌∙◌, arith}
use Rattle.std.specs.Prelude.{IsTrue}
use Rattle.std.specs.List.{list_all}
use Rattle.std.proofs.lemmas.Bool.{both_ways, or_parts, ltb-true, ltb-false, true≢false}
use Rattle.std.proofs.Math.Bool.{or-false as last, or_assoc}
use Rattle.codeco_text.specs.declared.written.WrittenItem.{WrittenItem}
use Rattle.codeco_text.specs.Notation.{item_fits}
use Rattle.codeco_checked.specs.declared.fault.GrammarFault.{GrammarFault}
use Rattle.codeco_checked.specs.declared.fault.GrammarFault.TheVariants.{Syntax, TooLarge, Undeclared, BadValue, EmptyRule, LeftRecursion, TakenVariable, LabelKind, NoStart, Memory}
use Rattle.codeco_checked.specs.Faults.{at_rule, is_large_rule, is_undeclared_rule, is_too_large, is_bad_value, has_large_declarations, has_broad_category, has_double_declaration}
use Rattle.codeco_checked.specs.Sound.{Holds}
use Rattle.codeco_checked.specs.FirstFault.{is_before, IsFirst}
use Rattle.codeco_numbering.specs.Numbered.{rules_of, numbered_of}
use Rattle.codeco_early_faults.specs.Early.{is_large_written_rule, at_written_rule, is_large_place, is_undeclared_place, is_too_large_place, has_large_written_declarations, has_broad_written_category, has_double_written_declaration, FindsFirst}
use Rattle.codeco_early_faults.proofs.DeclarationsSame.{large_declarations, double_declaration}
use Rattle.codeco_early_faults.proofs.RulesSame.{large_places, rules_counted, undeclared_places}
use Rattle.codeco_early_faults.proofs.BroadSame.{broad_category}

-- the places
too_large : (items : List WrittenItem) → list_all item_fits items ≡ true → (n : ℕ) → is_too_large (numbered_of items) n ≡ is_too_large_place items n
too_large items h n =
    let g = numbered_of items in
    let first = (eqb n 0 && has_large_declarations g) || (eqb n 1 && has_broad_category g) in
    ap (λ k. (first || at_rule (is_large_rule g) g.rules n) || (eqb n 501 && ltb 500 k)) (rules_counted items)
    ∙ ap (λ b. (first || b) || (eqb n 501 && ltb 500 (length (rules_of items)))) (large_places items h n)
    ∙ or_assoc first (at_written_rule is_large_written_rule (rules_of items) n) (eqb n 501 && ltb 500 (length (rules_of items)))
    ∙ ap (λ b. ((eqb n 0 && b) || (eqb n 1 && has_broad_category g)) || is_large_place (rules_of items) n) (large_declarations items)
    ∙ ap (λ b. ((eqb n 0 && has_large_written_declarations items) || (eqb n 1 && b)) || is_large_place (rules_of items) n) (broad_category items h)

bad_first : (items : List WrittenItem) → is_bad_value (numbered_of items) 0 ≡ has_double_written_declaration items
bad_first items = last (has_double_declaration (numbered_of items)) ∙ double_declaration items

module _ (items : List WrittenItem) (fits : list_all item_fits items ≡ true) where
  -- no fault comes before one that is no early fault
  no_large : ((n : ℕ) → is_too_large_place items n ≡ false) → (n : ℕ) → Holds (numbered_of items) (TooLarge n) → ⊥
  no_large none n h = both_ways (is_too_large (numbered_of items) n) (too_large items fits n ∙ none n) h

  no_undeclared : ((n : ℕ) → is_undeclared_place items n ≡ false) → (n : ℕ) → Holds (numbered_of items) (Undeclared n) → ⊥
  no_undeclared none n h = both_ways (at_rule (is_undeclared_rule (numbered_of items)) (numbered_of items).rules n) (undeclared_places items fits n ∙ none n) h

  pub first_large : (place : ℕ) → FindsFirst (is_too_large_place items) (Some place) → IsFirst (numbered_of items) (TooLarge place)
  first_large place finds = record { holds = too_large items fits place ∙ finds.holds; least = least }
    where
      least : (other : GrammarFault) → IsTrue (is_before other (TooLarge place)) → Holds (numbered_of items) other → ⊥
      least (Syntax n) b h = h
      least (TooLarge n) b h = both_ways (is_too_large (numbered_of items) n) (too_large items fits n ∙ finds.least n (ltb-true n place b)) h
      least (Undeclared n) b h = true≢false (sym b)
      least (BadValue n) b h = true≢false (sym b)
      least (EmptyRule n) b h = true≢false (sym b)
      least (LeftRecursion n) b h = true≢false (sym b)
      least (TakenVariable n) b h = true≢false (sym b)
      least (LabelKind n) b h = true≢false (sym b)
      least NoStart b h = true≢false (sym b)
      least Memory b h = h

  module _ (small : (n : ℕ) → is_too_large_place items n ≡ false) where
    pub first_undeclared : (place : ℕ) → FindsFirst (is_undeclared_place items) (Some place) → IsFirst (numbered_of items) (Undeclared place)
    first_undeclared place finds = record { holds = undeclared_places items fits place ∙ finds.holds; least = least }
      where
        least : (other : GrammarFault) → IsTrue (is_before other (Undeclared place)) → Holds (numbered_of items) other → ⊥
        least (Syntax n) b h = h
        least (TooLarge n) b h = no_large small n h
        least (Undeclared n) b h = both_ways (at_rule (is_undeclared_rule (numbered_of items)) (numbered_of items).rules n)
            (undeclared_places items fits n ∙ finds.least n (ltb-true n place b)) h
        least (BadValue n) b h = true≢false (sym b)
        least (EmptyRule n) b h = true≢false (sym b)
        least (LeftRecursion n) b h = true≢false (sym b)
        least (TakenVariable n) b h = true≢false (sym b)
        least (LabelKind n) b h = true≢false (sym b)
        least NoStart b h = true≢false (sym b)
        least Memory b h = h

    module _ (declared : (n : ℕ) → is_undeclared_place items n ≡ false) where
      pub first_double : has_double_written_declaration items ≡ true → IsFirst (numbered_of items) (BadValue 0)
      first_double double = record { holds = bad_first items ∙ double; least = least }
        where
          least : (other : GrammarFault) → IsTrue (is_before other (BadValue 0)) → Holds (numbered_of items) other → ⊥
          least (Syntax n) b h = h
          least (TooLarge n) b h = no_large small n h
          least (Undeclared n) b h = no_undeclared declared n h
          least (BadValue n) b h = let lt = ltb-true n 0 b in absurd (omega arith)
          least (EmptyRule n) b h = true≢false (sym b)
          least (LeftRecursion n) b h = true≢false (sym b)
          least (TakenVariable n) b h = true≢false (sym b)
          least (LabelKind n) b h = true≢false (sym b)
          least NoStart b h = true≢false (sym b)
          least Memory b h = h

      pub none_early : has_double_written_declaration items ≡ false → (f : GrammarFault) → IsTrue (is_before f (BadValue 1)) → Holds (numbered_of items) f → ⊥
      none_early single (Syntax n) b h = h
      none_early single (TooLarge n) b h = no_large small n h
      none_early single (Undeclared n) b h = no_undeclared declared n h
      none_early single (BadValue n) b h =
          let lt = ltb-true n 1 b in
          let is : n ≡ 0 = omega arith in
          both_ways (is_bad_value (numbered_of items) n) (ap (is_bad_value (numbered_of items)) is ∙ bad_first items ∙ single) h
      none_early single (EmptyRule n) b h = true≢false (sym b)
      none_early single (LeftRecursion n) b h = true≢false (sym b)
      none_early single (TakenVariable n) b h = true≢false (sym b)
      none_early single (LabelKind n) b h = true≢false (sym b)
      none_early single NoStart b h = true≢false (sym b)
      none_early single Memory b h = h

-- where no place is too large, the rules are at most 500
pub few_rules : (items : List WrittenItem) → ((n : ℕ) → is_too_large_place items n ≡ false) → length (rules_of items) ≤ 500
few_rules items small =
    let all = or_parts ((eqb 501 0 && has_large_written_declarations items) || (eqb 501 1 && has_broad_written_category items))
    (is_large_place (rules_of items) 501) (small 501) in
    let many = or_parts (at_written_rule is_large_written_rule (rules_of items) 501) (eqb 501 501 && ltb 500 (length (rules_of items))) all.1 in
    ltb-false 500 (length (rules_of items)) many.1
