-- Skeletons in order.
use Rattle.std.proofs.Common.{◌≡◌, ℕ, zero, suc, ◌+◌, ◌≤◌, length, true, List, [], ◌∷◌, map, refl, sym, ap, ◌∙◌, arith, Some}
use Rattle.std.specs.Prelude.{◌&&◌, ◌==◌, nat_le, slice_get}
use Rattle.std.specs.List.{list_all}
use Rattle.std.proofs.lemmas.Bool.{and_parts, leb-true, eqb-true}
use Rattle.codeco_terms.specs.declared.categories.Category.{Category}
use Rattle.codeco_terms.specs.declared.categories.Pattern.{Pattern}
use Rattle.codeco_terms.specs.declared.elements.Element.{Element}
use Rattle.codeco_terms.specs.declared.elements.Element.TheVariants.{Terminal, Preterminal, Sub, Position, Opener, Forward, Strong, Back, NoBack}
use Rattle.codeco_terms.specs.GrammarParts.{GrammarParts}
use Rattle.derivation_trees.specs.declared.skeletons.Skeleton.{Skeleton, out-Skeleton}
use Rattle.derivation_trees.specs.declared.skeletons.Skeleton.TheFolds.{fold_out-Skeleton}
use Rattle.derivation_trees.specs.Sketches.{body_of}
use Rattle.drs_build.specs.Order.{Span, leads, Ordered, ordered, ordered_layer, is_in_order, span_of}
use Rattle.drs_build.specs.Nodes.{introduced_at, ends_of}

ordered_is : (g : GrammarParts) (sk : Skeleton)
    → ordered g sk ≡ ordered_layer g (record {
      rule = (out-Skeleton sk).rule;
      start = (out-Skeleton sk).start;
      end = (out-Skeleton sk).end;
      found = (out-Skeleton sk).found;
      words = (out-Skeleton sk).words;
      children = map (ordered g) (out-Skeleton sk).children;
    })
unfolding ordered
ordered_is g sk = fold_out-Skeleton Ordered (ordered_layer g) sk

ordered_spans : (g : GrammarParts) (sks : List Skeleton) → map (λ c. c.span) (map (ordered g) sks) ≡ map span_of sks
ordered_spans g [] = refl
ordered_spans g (sk ∷ sks) = ap (λ s. s ∷ map (λ c. c.span) (map (ordered g) sks)) (ap (λ o. o.span) (ordered_is g sk))
    ∙ ap (λ ss. span_of sk ∷ ss) (ordered_spans g sks)

all_ordered : (g : GrammarParts) (sks : List Skeleton) → list_all (λ c. c.in_order) (map (ordered g) sks) ≡ list_all (is_in_order g) sks
all_ordered g [] = refl
all_ordered g (sk ∷ sks) = ap (λ b. is_in_order g sk && b) (all_ordered g sks)

-- a skeleton is in order where its own body is, and its children
pub in_order_is : (g : GrammarParts) (sk : Skeleton)
    → is_in_order g sk ≡ (leads (body_of g (out-Skeleton sk).rule) (out-Skeleton sk).start (map span_of (out-Skeleton sk).children) (out-Skeleton sk).end
    && list_all (is_in_order g) (out-Skeleton sk).children)
in_order_is g sk =
    let all = list_all (λ c. c.in_order) (map (ordered g) (out-Skeleton sk).children) in
    ap (λ o. o.in_order) (ordered_is g sk)
    ∙ ap (λ ss. leads (body_of g (out-Skeleton sk).rule) (out-Skeleton sk).start ss (out-Skeleton sk).end && all) (ordered_spans g (out-Skeleton sk).children)
    ∙ ap (λ b. leads (body_of g (out-Skeleton sk).rule) (out-Skeleton sk).start (map span_of (out-Skeleton sk).children) (out-Skeleton sk).end && b)
    (all_ordered g (out-Skeleton sk).children)

pub body_leads : (g : GrammarParts) (sk : Skeleton) → is_in_order g sk ≡ true
    → leads (body_of g (out-Skeleton sk).rule) (out-Skeleton sk).start (map span_of (out-Skeleton sk).children) (out-Skeleton sk).end ≡ true
body_leads g sk h = (and_parts _ _ (sym (in_order_is g sk) ∙ h)).0

pub children_in_order : (g : GrammarParts) (sk : Skeleton) → is_in_order g sk ≡ true → list_all (is_in_order g) (out-Skeleton sk).children ≡ true
children_in_order g sk h = (and_parts _ _ (sym (in_order_is g sk) ∙ h)).1

pub one_in_order : (g : GrammarParts) (sks : List Skeleton) (i : ℕ) (sk : Skeleton) → list_all (is_in_order g) sks ≡ true → slice_get sks i ≡ Some sk
    → is_in_order g sk ≡ true
one_in_order g [] i sk all at = absurd cc
one_in_order g (k ∷ ks) zero sk all at =
    let same : k ≡ sk = cc in
    ap (is_in_order g) (sym same) ∙ (and_parts (is_in_order g k) (list_all (is_in_order g) ks) all).0
one_in_order g (k ∷ ks) (suc i) sk all at = one_in_order g ks i sk (and_parts (is_in_order g k) (list_all (is_in_order g) ks) all).1 at

-- a child of a skeleton in order is in order
pub child_in_order : (g : GrammarParts) (sk : Skeleton) (i : ℕ) (child : Skeleton) → is_in_order g sk ≡ true
    → slice_get (out-Skeleton sk).children i ≡ Some child → is_in_order g child ≡ true
child_in_order g sk i child h at = one_in_order g (out-Skeleton sk).children i child (children_in_order g sk h) at

-- elements lead upwards
pub leads_up : (es : List Element) (place : ℕ) (spans : List Span) (end : ℕ) → leads es place spans end ≡ true → place ≤ end
leads_up [] place [] end h = let e : place ≡ end = eqb-true place end h in omega arith
leads_up [] place (span ∷ spans) end h = absurd cc
leads_up (Terminal t ∷ es) place spans end h = omega (arith, leads_up es (place + 1) spans end h)
leads_up (Preterminal c ∷ es) place spans end h = omega (arith, leads_up es (place + 1) spans end h)
leads_up (Sub c ∷ es) place [] end h = leads_up es place [] end h
leads_up (Sub c ∷ es) place (span ∷ spans) end h =
    let parts = and_parts (span.start == place) (nat_le span.start span.end && leads es span.end spans end) h in
    let more = and_parts (nat_le span.start span.end) (leads es span.end spans end) parts.1 in
    let from : span.start ≡ place = eqb-true span.start place parts.0 in
    let up : span.start ≤ span.end = leb-true span.start span.end more.0 in
    omega (arith, leads_up es span.end spans end more.1)
leads_up (Position x ∷ es) place spans end h = leads_up es place spans end h
leads_up (Opener ∷ es) place spans end h = leads_up es place spans end h
leads_up (Forward c ∷ es) place spans end h = leads_up es place spans end h
leads_up (Strong c ∷ es) place spans end h = leads_up es place spans end h
leads_up (Back ps ns ∷ es) place spans end h = leads_up es place spans end h
leads_up (NoBack ps ∷ es) place spans end h = leads_up es place spans end h

-- What the first element leaves.

first_leads : (body rest : List Element) (e one : Element) (place : ℕ) (spans : List Span) (end : ℕ) → leads body place spans end ≡ true → body ≡ e ∷ rest
    → e ≡ one → leads (one ∷ rest) place spans end ≡ true
first_leads body rest e one place spans end h is kind = ap (λ es. leads es place spans end) (sym (is ∙ ap (λ x. x ∷ rest) kind)) ∙ h

pub terminal_leads : (body rest : List Element) (e : Element) (t : ℕ) (place : ℕ) (spans : List Span) (end : ℕ) → leads body place spans end ≡ true
    → body ≡ e ∷ rest → e ≡ Terminal t → leads rest (place + 1) spans end ≡ true
terminal_leads body rest e t place spans end h is kind = first_leads body rest e (Terminal t) place spans end h is kind

pub preterminal_leads : (body rest : List Element) (e : Element) (c : Category) (place : ℕ) (spans : List Span) (end : ℕ) → leads body place spans end ≡ true
    → body ≡ e ∷ rest → e ≡ Preterminal c → leads rest (place + 1) spans end ≡ true
preterminal_leads body rest e c place spans end h is kind = first_leads body rest e (Preterminal c) place spans end h is kind

pub child_leads : (body rest : List Element) (e : Element) (c : Category) (place : ℕ) (kids others : List Skeleton) (kid : Skeleton) (end : ℕ)
    → leads body place (map span_of kids) end ≡ true → body ≡ e ∷ rest → e ≡ Sub c → kids ≡ kid ∷ others
    → leads rest (out-Skeleton kid).end (map span_of others) end ≡ true
child_leads body rest e c place kids others kid end h is kind are =
    let k : leads (Sub c ∷ rest) place (map span_of kids) end ≡ true = first_leads body rest e (Sub c) place (map span_of kids) end h is kind in
    let first : ((out-Skeleton kid).start == place
    && (nat_le (out-Skeleton kid).start (out-Skeleton kid).end && leads rest (out-Skeleton kid).end (map span_of others) end)) ≡ true =
    ap (λ ks. leads (Sub c ∷ rest) place (map span_of ks) end) (sym are) ∙ k in
    let later = and_parts ((out-Skeleton kid).start == place)
    (nat_le (out-Skeleton kid).start (out-Skeleton kid).end && leads rest (out-Skeleton kid).end (map span_of others) end) first in
    (and_parts (nat_le (out-Skeleton kid).start (out-Skeleton kid).end) (leads rest (out-Skeleton kid).end (map span_of others) end) later.1).1

pub childless_leads : (body rest : List Element) (e : Element) (c : Category) (place : ℕ) (kids : List Skeleton) (end : ℕ)
    → leads body place (map span_of kids) end ≡ true → body ≡ e ∷ rest → e ≡ Sub c → length kids ≡ 0 → leads rest place (map span_of kids) end ≡ true
childless_leads body rest e c place [] end h is kind none = first_leads body rest e (Sub c) place [] end h is kind
childless_leads body rest e c place (kid ∷ kids) end h is kind none = absurd (omega arith)

pub position_leads : (body rest : List Element) (e : Element) (x : ℕ) (place : ℕ) (spans : List Span) (end : ℕ) → leads body place spans end ≡ true
    → body ≡ e ∷ rest → e ≡ Position x → leads rest place spans end ≡ true
position_leads body rest e x place spans end h is kind = first_leads body rest e (Position x) place spans end h is kind

pub opener_leads : (body rest : List Element) (e : Element) (place : ℕ) (spans : List Span) (end : ℕ) → leads body place spans end ≡ true → body ≡ e ∷ rest
    → e ≡ Opener → leads rest place spans end ≡ true
opener_leads body rest e place spans end h is kind = first_leads body rest e Opener place spans end h is kind

pub reference_leads : (body rest : List Element) (e : Element) (ps ns : List Pattern) (place : ℕ) (spans : List Span) (end : ℕ)
    → leads body place spans end ≡ true → body ≡ e ∷ rest → e ≡ Back ps ns → leads rest place spans end ≡ true
reference_leads body rest e ps ns place spans end h is kind = first_leads body rest e (Back ps ns) place spans end h is kind

pub absence_leads : (body rest : List Element) (e : Element) (ps : List Pattern) (place : ℕ) (spans : List Span) (end : ℕ) → leads body place spans end ≡ true
    → body ≡ e ∷ rest → e ≡ NoBack ps → leads rest place spans end ≡ true
absence_leads body rest e ps place spans end h is kind = first_leads body rest e (NoBack ps) place spans end h is kind

-- nothing is left at the end
pub ended : (body : List Element) (place : ℕ) (kids : List Skeleton) (end : ℕ) → leads body place (map span_of kids) end ≡ true → length body ≡ 0
    → end ≡ introduced_at body place (ends_of kids)
ended [] place [] end h none = sym (eqb-true place end h)
ended [] place (kid ∷ kids) end h none = absurd cc
ended (e ∷ es) place kids end h none = absurd (omega arith)
