-- One that listens anywhere, and what is left of a script from the first event that can come.
use Rattle.std.proofs.Common.{rules, ◌≡◌, refl, sym, ℕ, Bool, true, false, IsTrue, if◌then◌else◌, List, [], ◌∷◌}
use Rattle.std.specs.List.{list_all}
use Rattle.wiki_io.specs.declared.links.Event.{Event}
use Rattle.wiki_io.specs.Link.{listens_anywhere, can_come}
use Rattle.wiki_io.specs.MemoryLink.{is_whole, coming, begins_well}

-- one that listens does so at each address
pub listens_everywhere : (address : List ℕ) → IsTrue (listens_anywhere true address)
unfolding listens_anywhere
listens_everywhere address = refl

-- what is left begins with an event that can come
pub begins_well-coming : (connections : List ℕ) (events : List Event) → IsTrue (begins_well connections (coming connections events))
begins_well-coming connections [] = refl
begins_well-coming connections (event ∷ events) =
    let Claim : Bool → Type 0 = λ b. b ≡ can_come connections event
    → IsTrue (begins_well connections (if b then event ∷ events else coming connections events)) in
    let cases : (b : Bool) → Claim b = λ b. elim b as Claim [
      | true ↦ λ is. sym is
      | false ↦ λ is. begins_well-coming connections events
    ] in
    cases (can_come connections event) refl

-- events that are whole are whole from there on
pub list_all-coming : (connections : List ℕ) (events : List Event) → IsTrue (list_all is_whole events) → IsTrue (list_all is_whole (coming connections events))
list_all-coming connections [] whole = refl
list_all-coming connections (event ∷ events) whole =
    let Claim : Bool → Type 0 = λ b. IsTrue (list_all is_whole (if b then event ∷ events else coming connections events)) in
    let cases : (b : Bool) → Claim b = λ b. elim b as Claim [
      | true ↦ whole
      | false ↦ list_all-coming connections events (search (rules, whole))
    ] in
    cases (can_come connections event)
