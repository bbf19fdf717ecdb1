-- The number and the name by which each refusal is told, wherever it is told.
use Rattle.std.specs.Prelude.{ℕ, List, codes}
use Rattle.wiki_talk.specs.declared.refusals.Refusal.{Refusal}
use Rattle.wiki_talk.specs.declared.refusals.Refusal.TheVariants.{NoWord, BadForm, Taken, Reserved, NoPlace, NoSession, Full, Stale, NotOffered, Nothing, Unfinished, NotSentence, InUse, Breaks, BadStatus, GrammarRefused, Bare}

pub record Named : Type 0 where
  pub number : ℕ
  pub name : List ℕ

-- what tells a line that is too long or is no request
abbrev pub bad_request : Named
bad_request = record { number = 0; name = codes "BadRequest" }

abbrev pub title_of : Refusal → Named
title_of (NoWord text) = record { number = 1; name = codes "NoWord" }
title_of (BadForm which) = record { number = 2; name = codes "BadForm" }
title_of (Taken text word) = record { number = 3; name = codes "Taken" }
title_of (Reserved text) = record { number = 4; name = codes "Reserved" }
title_of (NoPlace length) = record { number = 5; name = codes "NoPlace" }
title_of (NoSession session) = record { number = 6; name = codes "NoSession" }
title_of (Full which limit) = record { number = 7; name = codes "Full" }
title_of (Stale revision) = record { number = 8; name = codes "Stale" }
title_of (NotOffered text) = record { number = 9; name = codes "NotOffered" }
title_of Nothing = record { number = 10; name = codes "Nothing" }
title_of (Unfinished menu) = record { number = 11; name = codes "Unfinished" }
title_of (NotSentence k menu) = record { number = 12; name = codes "NotSentence" }
title_of (InUse article at) = record { number = 13; name = codes "InUse" }
title_of (Breaks article at) = record { number = 14; name = codes "Breaks" }
title_of (BadStatus status) = record { number = 15; name = codes "BadStatus" }
title_of (GrammarRefused fault at) = record { number = 16; name = codes "GrammarRefused" }
title_of Bare = record { number = 17; name = codes "Bare" }
