-- Responses that are sent, in pieces and one after another.
use Rattle.std.proofs.Common.{◌≡◌, ◌⊎◌, ℕ, ◌+◌, ◌-◌, ◌^◌, ◌≤◌, min, ◌==◌, Bool, true, false, if◌then◌else◌, List, [], ◌∷◌, ◌++◌, length, map, take, drop, Option, Some, None, refl, sym, ap, ◌∙◌, append_assoc, append-nil, take-append-drop, arith, inl, inr}
use Rattle.std.proofs.lemmas.Bool.{cases_lt}
use Rattle.std.proofs.lemmas.Grind.{flat_map-append}
use Rattle.std.proofs.lemmas.List.{map_push, map-append, take_rest}
use Rattle.std.specs.List.{flat_map}
use Rattle.std.proofs.lemmas.Option.{same_Some}
use Rattle.wiki_io.specs.Faults.{Rose}
use Rattle.wiki_io.specs.Link.{with_more, sent_on}
use Rattle.serving.specs.Delivering.{Delivery, response, front_sent, lacking, cut, Delivers}

pub with_more-nil : {X : Type 0} (told : Option (List X)) → with_more told [] ≡ told
with_more-nil None = refl
with_more-nil (Some xs) = ap Some (append-nil xs)

pub with_more-append : {X : Type 0} (told : Option (List X)) (xs ys : List X) → with_more (with_more told xs) ys ≡ with_more told (xs ++ ys)
with_more-append None xs ys = refl
with_more-append (Some zs) xs ys = ap Some (append_assoc zs xs ys)

-- ---- one response after others

cut-append : (xs ys : List Delivery) → cut (xs ++ ys) ≡ cut xs + cut ys
cut-append [] ys = omega arith
cut-append (d ∷ xs) ys = omega (arith, cut-append xs ys)

-- the counts of failures
few-append : (faults first middle second last : ℕ) → min (faults + first) (2 ^ 64 - 1) ≤ middle → min (middle + second) (2 ^ 64 - 1) ≤ last
    → min (faults + (first + second)) (2 ^ 64 - 1) ≤ last
few-append faults first middle second last a b = omega arith

pub Delivers-none : (sent sent_after : Option (List (ℕ × List ℕ))) (faults faults_after : ℕ) → sent_after ≡ sent → faults ≤ faults_after
    → Delivers [] sent faults sent_after faults_after
Delivers-none sent sent_after faults faults_after same kept = record {
  deliveries = [];
  whole = refl;
  pieces = [];
  taken = same ∙ sym (with_more-nil sent);
  on_each = λ n. refl;
  few = omega arith;
}

pub Delivers-append : (xs ys : List (ℕ × List ℕ)) (sent middle last : Option (List (ℕ × List ℕ))) (faults faults_middle faults_last : ℕ)
    → Delivers xs sent faults middle faults_middle → Delivers ys middle faults_middle last faults_last → Delivers (xs ++ ys) sent faults last faults_last
Delivers-append xs ys sent middle last faults faults_middle faults_last one two = record {
  deliveries = one.deliveries ++ two.deliveries;
  whole = map-append response one.deliveries two.deliveries ∙ ap (λ rs. rs ++ map response two.deliveries) one.whole ∙ ap (λ rs. xs ++ rs) two.whole;
  pieces = one.pieces ++ two.pieces;
  taken = two.taken ∙ ap (λ told. with_more told two.pieces) one.taken ∙ with_more-append sent one.pieces two.pieces;
  on_each = λ n.
      let on : List (ℕ × List ℕ) → List ℕ = sent_on n in
      flat_map-append (λ (p : ℕ × List ℕ). if p.0 == n then p.1 else []) one.pieces two.pieces
      ∙ ap (λ bs. bs ++ on two.pieces) (one.on_each n) ∙ ap (λ bs. on (map front_sent one.deliveries) ++ bs) (two.on_each n)
      ∙ sym (ap on (map-append front_sent one.deliveries two.deliveries)
      ∙ flat_map-append (λ (p : ℕ × List ℕ). if p.0 == n then p.1 else []) (map front_sent one.deliveries) (map front_sent two.deliveries));
  few = rw (cut-append one.deliveries two.deliveries) (few-append faults (cut one.deliveries) faults_middle (cut two.deliveries) faults_last one.few two.few);
}

-- ---- one response in pieces

abbrev pub on_connection : ℕ → List ℕ → ℕ × List ℕ
on_connection n piece = (n, piece)

abbrev pub joined : List (List ℕ) → List ℕ
joined pieces = flat_map (λ p. p) pieces

-- some pieces were taken, and `rest` wasn't yet
pub record Sending (n : ℕ) (bytes rest : List ℕ) (sent : Option (List (ℕ × List ℕ))) (faults : ℕ) (sent_now : Option (List (ℕ × List ℕ)))
    (faults_now : ℕ) : Type 0 where
  pub pieces : List (List ℕ)
  pub front : bytes ≡ joined pieces ++ rest
  pub taken : sent_now ≡ with_more sent (map (on_connection n) pieces)
  pub kept : faults ≤ faults_now

pub Sending-first : (n : ℕ) (bytes rest : List ℕ) (sent : Option (List (ℕ × List ℕ))) (faults : ℕ) → rest ≡ bytes → Sending n bytes rest sent faults sent faults
Sending-first n bytes rest sent faults is = record { pieces = []; front = sym is; taken = sym (with_more-nil sent); kept = omega arith }

pub Sending-more : (n size : ℕ) (bytes rest : List ℕ) (sent : Option (List (ℕ × List ℕ))) (faults : ℕ) (sent_now : Option (List (ℕ × List ℕ))) (faults_now : ℕ)
    (sent_after : Option (List (ℕ × List ℕ))) (faults_after : ℕ)
    → Sending n bytes rest sent faults sent_now faults_now → sent_after ≡ with_more sent_now ((n, take size rest) ∷ []) → faults_now ≤ faults_after
    → Sending n bytes (take (length rest - size) (drop size rest)) sent faults sent_after faults_after
Sending-more n size bytes rest sent faults sent_now faults_now sent_after faults_after so_far taken kept =
    let pieces_after = so_far.pieces ++ take size rest ∷ [] in
    let joined_after : joined pieces_after ≡ joined so_far.pieces ++ take size rest =
    flat_map-append (λ (p : List ℕ). p) so_far.pieces (take size rest ∷ []) ∙ ap (λ bs. joined so_far.pieces ++ bs) (append-nil (take size rest)) in
    record {
      pieces = pieces_after;
      front = so_far.front ∙ ap (λ bs. joined so_far.pieces ++ bs) (sym (take-append-drop size rest))
          ∙ sym (append_assoc (joined so_far.pieces) (take size rest) (drop size rest))
          ∙ ap (λ bs. bs ++ drop size rest) (sym joined_after) ∙ ap (λ bs. joined pieces_after ++ bs) (sym (take_rest rest size));
      taken = taken ∙ ap (λ told. with_more told ((n, take size rest) ∷ [])) so_far.taken
          ∙ with_more-append sent (map (on_connection n) so_far.pieces) ((n, take size rest) ∷ [])
          ∙ ap (with_more sent) (sym (map_push (on_connection n) so_far.pieces (take size rest)));
      kept = omega (arith, so_far.kept);
    }

-- a piece, where the connection is the one that is asked for, and nothing of it otherwise
abbrev of_piece : Bool → List ℕ → List ℕ
of_piece b p = if b then p else []

sent_on-each : (n m : ℕ) (pieces : List (List ℕ)) → sent_on m (map (on_connection n) pieces) ≡ flat_map (of_piece (n == m)) pieces
sent_on-each n m [] = refl
sent_on-each n m (p ∷ pieces) = ap (λ bs. of_piece (n == m) p ++ bs) (sent_on-each n m pieces)

of_no_piece : (pieces : List (List ℕ)) → flat_map (of_piece false) pieces ≡ []
of_no_piece [] = refl
of_no_piece (p ∷ pieces) = of_no_piece pieces

-- what was sent in pieces on one connection
sent_on-pieces : (n m : ℕ) (pieces : List (List ℕ)) → sent_on m (map (on_connection n) pieces) ≡ sent_on m ((n, joined pieces) ∷ [])
sent_on-pieces n m pieces =
    let Claim : Bool → Type 0 = λ b. flat_map (of_piece b) pieces ≡ of_piece b (joined pieces) ++ [] in
    let cases : (b : Bool) → Claim b = λ b. elim b as Claim [
      | true ↦ sym (append-nil (joined pieces))
      | false ↦ of_no_piece pieces
    ] in
    sent_on-each n m pieces ∙ cases (n == m)

lacking-one : (bytes : List ℕ) → lacking bytes ≤ 1
lacking-one [] = omega arith
lacking-one (b ∷ bytes) = omega arith

pub Delivers-sending : (n : ℕ) (bytes rest : List ℕ) (sent : Option (List (ℕ × List ℕ))) (faults : ℕ) (sent_now sent_after : Option (List (ℕ × List ℕ)))
    (faults_now faults_after : ℕ)
    → Sending n bytes rest sent faults sent_now faults_now → sent_after ≡ sent_now → (rest ≡ []) × (faults_now ≤ faults_after) ⊎ Rose faults_now faults_after
    → Delivers ((n, bytes) ∷ []) sent faults sent_after faults_after
Delivers-sending n bytes rest sent faults sent_now sent_after faults_now faults_after sending same end = record {
  deliveries = record { number = n; sent = joined sending.pieces; unsent = rest } ∷ [];
  whole = ap (λ bs. (n, bs) ∷ []) (sym sending.front);
  pieces = map (on_connection n) sending.pieces;
  taken = same ∙ sending.taken;
  on_each = λ m. sent_on-pieces n m sending.pieces;
  few = elim end [
    | inl whole ↦ rw whole.0 (omega (arith, sending.kept, whole.1))
    | inr rose ↦ omega (arith, sending.kept, lacking-one rest, rose)
  ];
}

-- ---- responses that were all sent whole

lacking-none : (bytes : List ℕ) → lacking bytes ≡ 0 → bytes ≡ []
lacking-none [] none = refl
lacking-none (b ∷ bytes) none = absurd (omega arith)

cut-none : (deliveries : List Delivery) → cut deliveries ≡ 0 → map front_sent deliveries ≡ map response deliveries
cut-none [] none = refl
cut-none (d ∷ deliveries) none =
    let all_sent = lacking-none d.unsent (omega arith) in
    let one : front_sent d ≡ response d = ap (λ bs. (d.number, bs)) (sym (append-nil d.sent) ∙ ap (λ bs. d.sent ++ bs) (sym all_sent)) in
    ap (λ r. r ∷ map front_sent deliveries) one ∙ ap (λ rs. response d ∷ rs) (cut-none deliveries (omega arith))

-- where no send failed, the bytes sent on each connection are those of its responses
pub Delivers-whole : (responses : List (ℕ × List ℕ)) (sent sent_after : Option (List (ℕ × List ℕ))) (faults faults_after : ℕ)
    → Delivers responses sent faults sent_after faults_after
    → ¬ Rose faults faults_after → (n : ℕ) (told told_after : List (ℕ × List ℕ)) → sent ≡ Some told → sent_after ≡ Some told_after
    → sent_on n told_after ≡ sent_on n told ++ sent_on n responses
Delivers-whole responses sent sent_after faults faults_after delivers no_fault n told told_after is is_after =
    let none : cut delivers.deliveries ≡ 0 =
    elim (cases_lt 0 (cut delivers.deliveries)) [ inl some ↦ absurd (no_fault (omega (arith, delivers.few))) | inr few ↦ omega arith ] in
    let after : told_after ≡ told ++ delivers.pieces =
    same_Some told_after (told ++ delivers.pieces) (sym is_after ∙ delivers.taken ∙ ap (λ s. with_more s delivers.pieces) is) in
    ap (sent_on n) after ∙ flat_map-append (λ (p : ℕ × List ℕ). if p.0 == n then p.1 else []) told delivers.pieces
    ∙ ap (λ bs. sent_on n told ++ bs) (delivers.on_each n ∙ ap (sent_on n) (cut-none delivers.deliveries none ∙ delivers.whole))
