-- Values that the test calls the same are one.
use Rattle.std.proofs.Common.{◌≡◌, true, ap}
use Rattle.std.proofs.lemmas.Bool.{eqb-true}
use Rattle.codeco_terms.specs.declared.values.Value.{Value}
use Rattle.codeco_terms.specs.declared.values.Value.TheVariants.{Atom, Word, Pos}
use Rattle.codeco_terms.specs.Values.{same_value}

pub same_value_is : (v w : Value) → same_value v w ≡ true → v ≡ w
same_value_is (Atom a) (Atom b) h = ap (λ n. Atom n) (eqb-true a b h)
same_value_is (Word v) (Word w) h = ap (λ n. Word (record { 0 = n })) (eqb-true v.0 w.0 h)
same_value_is (Pos p) (Pos q) h = ap (λ n. Pos n) (eqb-true p q h)
same_value_is v w h = cc
