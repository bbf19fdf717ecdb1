-- A lexicon whose numbers are all given takes no more word.
use Rattle.std.proofs.Common.{◌≡◌, ℕ, ◌==◌, Bool, true, false, cond, length, Option, Some, None, sym, ap, ◌∙◌, arith}
use Rattle.std.specs.Option.{option_or}
use Rattle.std.proofs.lemmas.Bool.Decides.{nat_tests}
use Rattle.std.proofs.lemmas.Option.{none-some}
use Rattle.lexicon.specs.declared.kinds.Forms.{Forms}
use Rattle.lexicon.specs.declared.words.LexFault.{LexFault}
use Rattle.lexicon.specs.declared.words.LexFault.TheVariants.{Full}
use Rattle.lexicon.specs.declared.words.LexLimit.TheVariants.{Words, Numbers}
use Rattle.lexicon.specs.declared.words.TheConstants.{MOST_WORDS, LAST_NUMBER}
use Rattle.lexicon.specs.Words.{Listed, forms_refusal, fullness, add_refusal}

pub takes-none : (words : Listed) (forms : Forms) → words.last ≡ LAST_NUMBER → add_refusal words forms ≡ None → ⊥
takes-none words forms last free = by_first (forms_refusal words.live words.terminals forms) free
  where
    is_last : (words.last == LAST_NUMBER) ≡ true
    is_last = grind (arith, nat_tests)

    by_tests : (b f : Bool) → f ≡ true → cond b (Some (Full Words)) (cond f (Some (Full Numbers)) None) ≡ None → ⊥
    by_tests true f is none = none-some (Full Words) (sym none)
    by_tests false true is none = none-some (Full Numbers) (sym none)
    by_tests false false is none = cc

    by_first : (o : Option LexFault) → option_or o (fullness words) ≡ None → ⊥
    by_first None none = by_tests (length words.live == MOST_WORDS) (words.last == LAST_NUMBER) is_last none
    by_first (Some fault) none = none-some fault (sym none)
