-- A meaning as the program holds it.
use Rattle.logic_terms.specs.Shown.{claims_of, concept_of}
use Rattle.wiki_parts.specs.declared.meanings.Sense.{Sense}
use Rattle.wiki_parts.specs.declared.meanings.Sense.TheVariants as senses
use Rattle.plain_wiki.specs.Meanings.{Meaning, stating, outside, asking, asking_outside}

abbrev pub meaning_shown : Sense → Meaning
meaning_shown (senses.Stating axioms) = stating (claims_of axioms)
meaning_shown (senses.Outside cause) = outside cause
meaning_shown (senses.Asking class) = asking (concept_of class)
meaning_shown (senses.AskingOutside cause) = asking_outside cause
