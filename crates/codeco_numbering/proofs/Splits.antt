-- What the features of a category are in numbers, one by one.
use Rattle.std.proofs.Common.{◌≡◌, ℕ, List, [], ◌∷◌, ◌++◌, refl}
use Rattle.codeco_text.specs.declared.written.WrittenTerm.{WrittenTerm}
use Rattle.codeco_text.specs.declared.written.WrittenTerm.TheVariants as term
use Rattle.codeco_numbering.specs.Numbered.{Tables, plain_feats, taken_feats}

pub plain_split : (t : Tables) (f : ℕ × WrittenTerm) (fs : List (ℕ × WrittenTerm)) → plain_feats t (f ∷ fs) ≡ plain_feats t (f ∷ []) ++ plain_feats t fs
plain_split t (n, term.Atom w) fs = refl
plain_split t (n, term.Variable w) fs = refl
plain_split t (n, term.Taken w) fs = refl

pub taken_split : (t : Tables) (f : ℕ × WrittenTerm) (fs : List (ℕ × WrittenTerm)) → taken_feats t (f ∷ fs) ≡ taken_feats t (f ∷ []) ++ taken_feats t fs
taken_split t (n, term.Atom w) fs = refl
taken_split t (n, term.Variable w) fs = refl
taken_split t (n, term.Taken w) fs = refl
