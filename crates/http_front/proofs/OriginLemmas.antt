-- An origin that is cut behind its scheme.
use Rattle.std.proofs.Common.{◌≡◌, ℕ, List, Bool, false, true≢false, ◌++◌, length, map, take, drop, sym, ap, ◌∙◌}
use Rattle.std.specs.Prelude.{◌↔◌, IsTrue}
use Rattle.std.specs.Char.{to_ascii_lowercase}
use Rattle.std.proofs.lemmas.Bool.{false_from_ne_true}
use Rattle.std.proofs.lemmas.Bool.Decides.{Decides-like, same_from_decides}
use Rattle.std.proofs.lemmas.Slice.Eq.{bytes_eq-Decides}
use Rattle.std.proofs.lemmas.List.{map-append, take-append-drop, take-map, drop-map, length-map}
use Rattle.std.proofs.Math.Seq.{take-append_seam, drop-append_seam}
use Rattle.http_front.specs.Fields.{is_at}

abbrev lower : List ℕ → List ℕ
lower bytes = map to_ascii_lowercase bytes

-- the bytes are alike where their parts before and behind a place are
pub parts_alike : (scheme host origin : List ℕ) → lower (take (length scheme) origin) ≡ lower scheme → lower (drop (length scheme) origin) ≡ lower host
    → lower origin ≡ lower (scheme ++ host)
parts_alike scheme host origin front rest =
    ap lower (sym (take-append-drop (length scheme) origin))
    ∙ map-append to_ascii_lowercase (take (length scheme) origin) (drop (length scheme) origin)
    ∙ ap (λ (it : List ℕ). it ++ lower (drop (length scheme) origin)) front
    ∙ ap (λ (it : List ℕ). lower scheme ++ it) rest
    ∙ sym (map-append to_ascii_lowercase scheme host)

pub front_alike : (scheme host origin : List ℕ) → lower origin ≡ lower (scheme ++ host) → lower (take (length scheme) origin) ≡ lower scheme
front_alike scheme host origin same =
    sym (take-map to_ascii_lowercase (length scheme) origin)
    ∙ ap (λ (it : List ℕ). take (length scheme) it) (same ∙ map-append to_ascii_lowercase scheme host)
    ∙ ap (λ (n : ℕ). take n (lower scheme ++ lower host)) (sym (length-map scheme to_ascii_lowercase))
    ∙ take-append_seam (lower scheme) (lower host)

pub rest_alike : (scheme host origin : List ℕ) → lower origin ≡ lower (scheme ++ host) → lower (drop (length scheme) origin) ≡ lower host
rest_alike scheme host origin same =
    sym (drop-map to_ascii_lowercase (length scheme) origin)
    ∙ ap (λ (it : List ℕ). drop (length scheme) it) (same ∙ map-append to_ascii_lowercase scheme host)
    ∙ ap (λ (n : ℕ). drop n (lower scheme ++ lower host)) (sym (length-map scheme to_ascii_lowercase))
    ∙ drop-append_seam (lower scheme) (lower host)

module _ (scheme host origin : List ℕ) (front rest : List ℕ) (cut : front ≡ take (length scheme) origin) (behind : rest ≡ drop (length scheme) origin) where
  -- behind its scheme an origin tells its host
  pub host_tells : (b : Bool) → lower front ≡ lower scheme → (IsTrue b ↔ (lower rest ≡ lower host)) → b ≡ is_at scheme host origin
  unfolding is_at
  host_tells b begins test =
      same_from_decides b (is_at scheme host origin)
      (λ t. test.0 t, λ e. test.1 e)
      (Decides-like (is_at scheme host origin)
      (λ same. ap lower behind ∙ rest_alike scheme host origin same)
      (λ same. parts_alike scheme host origin (ap lower (sym cut) ∙ begins) (ap lower (sym behind) ∙ same))
      (bytes_eq-Decides (lower origin) (lower (scheme ++ host))))

  -- an origin that begins otherwise is another
  pub begins_otherwise : (b : Bool) → b ≡ false → (IsTrue b ↔ (lower front ≡ lower scheme)) → b ≡ is_at scheme host origin
  unfolding is_at
  begins_otherwise b fails test =
      fails ∙ sym (false_from_ne_true (is_at scheme host origin)
      (λ yes. true≢false (sym (test.1 (ap lower cut ∙ front_alike scheme host origin ((bytes_eq-Decides (lower origin) (lower (scheme ++ host))).0 yes)))
      ∙ fails)))
