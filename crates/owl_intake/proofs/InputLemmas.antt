-- What of an input was read.
use Rattle.std.proofs.Common.{◌≡◌, ℕ, ◌+◌, ◌<◌, ◌≤◌, List, [], ◌++◌, length, Option, refl, sym, subst, arith, length-append, append-nil}
use Rattle.std.specs.Prelude.{Ok, Err}
use Rattle.std.specs.Io.KnownBytes.{Consumes, IsAtEnd}
use Rattle.wiki_io.proofs.KnownLemmas.{Consumes-nil, Consumes-trans}
use Rattle.owl_intake.specs.declared.input.TheConstants.{MOST_BYTES}
use Rattle.owl_intake.specs.declared.input.CutShort.{CutShort}
use Rattle.owl_intake.specs.declared.input.CutShort.TheVariants as cut
use Rattle.owl_intake.specs.Input.{ReadsInput}

-- what was read so far was kept
pub record HasRead (first left : Option (List ℕ)) (bytes : List ℕ) (faults_first faults_now : ℕ) : Type 0 where
  pub source : Consumes first left bytes
  pub few : length bytes ≤ MOST_BYTES
  pub faults : faults_first ≤ faults_now

pub HasRead-none : (first : Option (List ℕ)) (bytes : List ℕ) (faults : ℕ) → bytes ≡ [] → HasRead first first bytes faults faults
HasRead-none first bytes faults none = subst (λ (bs : List ℕ). HasRead first first bs faults faults) (sym none)
    (record { source = Consumes-nil first; few = omega arith; faults = omega arith })

-- a read gave bytes, and they were added
pub HasRead-more : (first left left_after : Option (List ℕ)) (bytes got after : List ℕ) (faults_first faults faults_after : ℕ)
    → HasRead first left bytes faults_first faults → Consumes left left_after got → faults ≤ faults_after → after ≡ bytes ++ got → length after ≤ MOST_BYTES
    → HasRead first left_after after faults_first faults_after
HasRead-more first left left_after bytes got after faults_first faults faults_after so read more is few = record {
  source = subst (Consumes first left_after) (sym is) (Consumes-trans first left left_after bytes got so.source read);
  few = few;
  faults = omega (arith, so.faults, more);
}

-- a read gave the end
pub ReadsInput-end : (first left left_after : Option (List ℕ)) (bytes : List ℕ) (faults_first faults : ℕ) → HasRead first left bytes faults_first faults
    → Consumes left left_after [] → IsAtEnd left_after → ReadsInput first left_after (Ok bytes)
ReadsInput-end first left left_after bytes faults_first faults so read end = record {
  read = bytes;
  source = subst (Consumes first left_after) (append-nil bytes) (Consumes-trans first left left_after bytes [] so.source read);
  ends = (end, so.few, refl);
}

-- a read failed
pub ReadsInput-failed : (first left left_after : Option (List ℕ)) (bytes : List ℕ) (faults_first faults : ℕ) → HasRead first left bytes faults_first faults
    → Consumes left left_after [] → ReadsInput first left_after (Err cut.ReadFault)
ReadsInput-failed first left left_after bytes faults_first faults so read = record {
  read = bytes;
  source = subst (Consumes first left_after) (append-nil bytes) (Consumes-trans first left left_after bytes [] so.source read);
  ends = so.few;
}

-- a read gave bytes that were not added
pub ReadsInput-cut : (first left left_after : Option (List ℕ)) (bytes got : List ℕ) (faults_first faults : ℕ) (why : CutShort)
    → HasRead first left bytes faults_first faults → Consumes left left_after got → (why ≡ cut.TooMuch → MOST_BYTES < length bytes + length got)
    → (why ≡ cut.Memory → length bytes + length got ≤ MOST_BYTES) → (why ≡ cut.ReadFault → ⊥) → ReadsInput first left_after (Err why)
ReadsInput-cut first left left_after bytes got faults_first faults cut.TooMuch so read many few failed = record {
  read = bytes ++ got;
  source = Consumes-trans first left left_after bytes got so.source read;
  ends = omega (arith, many refl, length-append bytes got);
}
ReadsInput-cut first left left_after bytes got faults_first faults cut.Memory so read many few failed = record {
  read = bytes ++ got;
  source = Consumes-trans first left left_after bytes got so.source read;
  ends = omega (arith, few refl, length-append bytes got);
}
ReadsInput-cut first left left_after bytes got faults_first faults cut.ReadFault so read many few failed = absurd (failed refl)

-- there was no memory for a block
pub ReadsInput-none : (first : Option (List ℕ)) → ReadsInput first first (Err cut.Memory)
ReadsInput-none first = record { read = []; source = Consumes-nil first; ends = omega arith }
