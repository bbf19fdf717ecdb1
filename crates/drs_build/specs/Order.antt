-- Skeletons in order: each phrase takes the places between its start and its end, from left to right. Only private calls speak of it.
use Rattle.std.specs.Prelude.{◌≡◌, ℕ, ◌+◌, ◌<◌, ◌==◌, slice_get, Some, nat_le, Bool, true, false, ◌&&◌, List, [], ◌∷◌, map}
use Rattle.std.specs.List.{list_all}
use Rattle.codeco_terms.specs.declared.elements.Element.{Element}
use Rattle.codeco_terms.specs.declared.elements.Element.TheVariants.{Terminal, Preterminal, Sub}
use Rattle.codeco_terms.specs.GrammarParts.{GrammarParts}
use Rattle.derivation_trees.specs.declared.skeletons.Skeleton.{Skeleton, out-Skeleton}
use Rattle.derivation_trees.specs.declared.skeletons.Skeleton.TheOpen.{Skeleton-F}
use Rattle.derivation_trees.specs.declared.skeletons.Skeleton.TheFolds.{fold-Skeleton}
use Rattle.derivation_trees.specs.declared.skeletons.Skeleton.TheViews.{size-Skeleton}
use Rattle.derivation_trees.specs.Sketches.{body_of}
use Rattle.drs_build.specs.Nodes.{meant_children}

-- where a phrase starts and where it ends
pub record Span : Type 0 where
  pub start : ℕ
  pub end : ℕ

-- The elements of a body take places one after another: begun at a place, with children that have these spans, they end at the
-- last place. A token takes one place, and a child what is between its start and its end.
abbrev pub leads : List Element → ℕ → List Span → ℕ → Bool
leads [] place [] end = place == end
leads [] place (span ∷ spans) end = false
leads (Terminal t ∷ es) place spans end = leads es (place + 1) spans end
leads (Preterminal c ∷ es) place spans end = leads es (place + 1) spans end
leads (Sub c ∷ es) place [] end = leads es place [] end
leads (Sub c ∷ es) place (span ∷ spans) end = (span.start == place) && (nat_le span.start span.end && leads es span.end spans end)
leads (_ ∷ es) place spans end = leads es place spans end

-- the span of a phrase, and whether it and all in it are in order
pub record Ordered : Type 0 where
  pub span : Span
  pub in_order : Bool

abbrev pub ordered_layer : GrammarParts → Skeleton-F Ordered → Ordered
ordered_layer g layer = record {
  span = record { start = layer.start; end = layer.end };
  in_order = leads (body_of g layer.rule) layer.start (map (λ c. c.span) layer.children) layer.end && list_all (λ c. c.in_order) layer.children;
}

unfoldable pub ordered : GrammarParts → Skeleton → Ordered
ordered g = fold-Skeleton Ordered (ordered_layer g)

-- the phrases of the skeleton take places one after another
abbrev pub is_in_order : GrammarParts → Skeleton → Bool
is_in_order g sk = (ordered g sk).in_order

-- the span of a skeleton
abbrev pub span_of : Skeleton → Span
span_of sk = record { start = (out-Skeleton sk).start; end = (out-Skeleton sk).end }

-- a child of this number among those that are no marks: it is smaller than the skeleton, and in order where that is
pub record IsChild (g : GrammarParts) (sk : Skeleton) (number : ℕ) (child : Skeleton) : Type 0 where
  pub is : slice_get (meant_children g sk) number ≡ Some child
  pub smaller : size-Skeleton child < size-Skeleton sk
  pub in_order : is_in_order g sk ≡ true → is_in_order g child ≡ true
