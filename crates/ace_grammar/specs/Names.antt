-- The declarations of the grammar, and the names of atoms, terminals and categories, in order of number.
use Prim.Native.String.{String}
use Rattle.std.specs.Prelude.{ℕ, ◌+◌, if◌then◌else◌, List, [], ◌∷◌, map, codes}
use Rattle.codeco_terms.specs.declared.declarations.Declared.{Declared}
use Rattle.codeco_terms.specs.declared.declarations.Declared.TheVariants.{Words, Positions, Atoms}
use Rattle.codeco_terms.specs.declared.declarations.Feature.{Feature}
use Rattle.codeco_text.specs.Names.{same_bytes}

-- the number of a name: its place in a list of names
abbrev pub place_of : List (List ℕ) → List ℕ → ℕ
place_of [] name = 0
place_of (x ∷ xs) name = if same_bytes x name then 0 else 1 + place_of xs name

-- those that the words of a lexicon have, and then the others
abbrev pub atom_names : List (List ℕ)
atom_names = codes "sg" ∷ codes "pl" ∷ codes "yes" ∷ codes "no" ∷ codes "third" ∷ codes "inf" ∷ codes "part" ∷
    codes "x" ∷ codes "y" ∷ codes "z" ∷ []

-- in the order of their first occurrence in the rules
abbrev pub terminal_texts : List (List ℕ)
terminal_texts = codes "." ∷ codes "?" ∷ codes "if" ∷ codes "then" ∷ codes "and" ∷ codes "or" ∷ codes "only" ∷
    codes "not" ∷ codes "does" ∷ codes "do" ∷ codes "is" ∷ codes "are" ∷ codes "by" ∷ codes "something" ∷
    codes "a" ∷ codes "an" ∷ codes "of" ∷ codes "that" ∷ codes "who" ∷ codes "it" ∷ codes "itself" ∷ codes "the" ∷
    codes "X" ∷ codes "Y" ∷ codes "Z" ∷ codes "every" ∷ codes "no" ∷ codes "everything" ∷ codes "nothing" ∷
    codes "what" ∷ codes "which" ∷ []

-- The kinds of words, text, and the others in the order of their first occurrence in the rules. What each is:
-- name: a word that is a name
-- noun: a word that is a noun
-- of: a word that is a noun which takes `of`
-- verb: a word that is a verb
-- adj: a word that is an adjective, which takes an object
-- text: a statement with its full stop, or a question with its question mark
-- s: a statement, without its full stop: a clause, or clauses behind `if` and behind `then`
-- q: a question, without its question mark
-- c: a clause: a subject with its verb phrases
-- cs: clauses with `and` between them
-- np: a subject
-- vps: the verb phrases of a subject, with `and` or `or` between them
-- vpa: verb phrases with `and` between them
-- vpo: verb phrases with `and` between them, as one of those with `or` between them
-- vpr: the verb phrases behind an `or`
-- vp: a verb phrase
-- obj: an object
-- rnoun: a referent that a noun introduces
-- do: `does` or `do`
-- vi: a verb in the infinitive with its object
-- be: `is` or `are`
-- pr: a predicate: what stands behind `is` or `are`
-- det: `a` or `an`
-- pb: a noun of a predicate, with what belongs to it
-- rels: relative clauses, with `and` or `or` between them
-- term: a name, a variable, or a noun behind `the`
-- pron: `it` or `itself` as an object
-- rel: a relative clause
-- relo: a relative clause, as one of those with `or` between them
-- relr: the relative clauses behind an `or`
-- rp: `that` or `who`
-- qp: a noun phrase with a quantifier, `a` and `something` among them
-- rname: a referent that a name introduces
-- rthing: a referent that `something`, `everything`, `nothing`, `what` or `who` introduces
-- rvar: a referent that a variable introduces
-- nb: a noun behind a quantifier, with what belongs to it
-- nq: a noun behind `which`
abbrev pub category_names : List (List ℕ)
category_names = codes "name" ∷ codes "noun" ∷ codes "of" ∷ codes "verb" ∷ codes "adj" ∷ codes "text" ∷
    codes "s" ∷ codes "q" ∷ codes "c" ∷ codes "cs" ∷ codes "np" ∷ codes "vps" ∷ codes "vpa" ∷ codes "vpo" ∷
    codes "vpr" ∷ codes "vp" ∷ codes "obj" ∷ codes "rnoun" ∷ codes "do" ∷ codes "vi" ∷ codes "be" ∷ codes "pr" ∷
    codes "det" ∷ codes "pb" ∷ codes "rels" ∷ codes "term" ∷ codes "pron" ∷ codes "rel" ∷ codes "relo" ∷
    codes "relr" ∷ codes "rp" ∷ codes "qp" ∷ codes "rname" ∷ codes "rthing" ∷ codes "rvar" ∷ codes "nb" ∷
    codes "nq" ∷ []

-- feature name: ..
abbrev pub feature : String → Declared → Feature
feature name d = record { name = codes name; declared = d }

-- the values that a declaration lists
abbrev pub among : List (List ℕ) → Declared
among atoms = Atoms (map (place_of atom_names) atoms)

-- those that the words of a lexicon have, and then the others in the order of their declarations
abbrev pub declarations : List Feature
declarations =
    feature "num" (among (codes "sg" ∷ codes "pl" ∷ [])) ∷
    feature "vow" (among (codes "yes" ∷ codes "no" ∷ [])) ∷
    feature "form" (among (codes "third" ∷ codes "inf" ∷ codes "part" ∷ [])) ∷
    feature "w" Words ∷
    feature "v" (among (codes "x" ∷ codes "y" ∷ codes "z" ∷ [])) ∷
    feature "id" Positions ∷
    feature "sub" Positions ∷
    []

abbrev pub feature_names : List (List ℕ)
feature_names = map (λ f. f.name) declarations
