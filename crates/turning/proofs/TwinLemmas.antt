-- A wiki with a history is a function of what it is asked, where no budget is spent: its state, and of its history all but the interpretations.
use Rattle.std.proofs.Common.{◌≡◌, ℕ, zero, suc, ◌<◌, Bool, true, false, List, [], ◌∷◌, map, take, ◌⊎◌, inl, inr, Option, Some, None, option_map, refl, sym, ap, subst, ◌∙◌, arith}
use Rattle.std.specs.Prelude.{MatchBool, MatchOption}
use Rattle.std.proofs.lemmas.Bool.{false≢true}
use Rattle.std.proofs.lemmas.Option.{none-some, same_Some}
use Rattle.wiki_base.specs.declared.numbers.WordId.{WordId}
use Rattle.lexicon.specs.declared.words.TheConstants.{LAST_NUMBER}
use Rattle.wiki_talk.specs.declared.refusals.Refusal.{Refusal}
use Rattle.wiki_talk.specs.declared.replies.Reply.{Reply}
use Rattle.wiki_talk.specs.declared.replies.Reply.TheVariants as replies
use Rattle.wiki_talk.specs.declared.requests.Request.{Request}
use Rattle.wiki_talk.specs.declared.requests.LineRequest.{LineRequest}
use Rattle.wiki_talk.specs.declared.requests.LineRequest.TheVariants as lines
use Rattle.wiki_talk.specs.Turns.{answered}
use Rattle.articles.specs.declared.article.Article.{Article}
use Rattle.articles.specs.Articles.{article_of}
use Rattle.articles.proofs.BareLaws.{Bare}
use Rattle.history.specs.declared.history.TheConstants.{MOST_ENTRIES}
use Rattle.wiki_store.specs.PuttingBack.{with_sentences}
use Rattle.plain_wiki.specs.State.{State}
use Rattle.wiki_core.specs.Holding.{Holding}
use Rattle.wiki_core.specs.Keeping.{changes_words}
use Rattle.plain_wiki.specs.Knowledge.{Spending}
use Rattle.plain_wiki.specs.Step.{Step}
use Rattle.plain_wiki.specs.Against.{Refuses, IsFree}
use Rattle.wiki_core.specs.Journaled.{tells_spent, is_spent_in}
use Rattle.wiki_parts.specs.Spending.{IsCutOff}
use Rattle.wiki_core.proofs.OneStepLemmas.{step_one}
use Rattle.turning.specs.Turning.{Former, Recalling, standing, standing_of, article_changed, NotesChange, Forgets, Remembers, CarriesHistory, HasNothing, IsAtLastRevision, PutsBack, Moves, KeptTurn}
use Rattle.turning.specs.Laws.{exchange_of, is_refused}
use Rattle.turning.proofs.MoveLemmas.{IsStill, move_outcome}

-- what stood, but for the interpretation
abbrev pub stood : Former → Bare
stood former = (former.article, former.sentences)

-- two wikis that differ in their budgets, and in interpretations, alone
pub record AreTwins (one other : Recalling) : Type 0 where
  pub state : other.wiki.state ≡ one.wiki.state
  pub past : map stood other.past ≡ map stood one.past
  pub future : map stood other.future ≡ map stood one.future

-- ---- both are refused, or both are done

-- what stands against a request, or nothing
abbrev Stands : State → Request → Reply → Type 0
Stands old request reply = ((refusal : Refusal) × Refuses old request refusal × (is_refused reply ≡ true)) ⊎ (IsFree old request × (is_refused reply ≡ false))

outcome : (IsSpent : Spending) (old : State) (request : Request) (reply : Reply) (new : State) → Step IsSpent old request reply new → Stands old request reply
outcome IsSpent old request (replies.Refused refusal) new step = inl (refusal, step.0, refl)
outcome IsSpent old request reply new step = inr (step.0, refl)

refused_alike : (IsSpent ItsSpent : Spending) (old : State) (request : Request) (said its : Reply) (new its_new : State) → Step IsSpent old request said new
    → Step ItsSpent old request its its_new → is_refused its ≡ is_refused said
refused_alike IsSpent ItsSpent old request said its new its_new step its_step =
    by (outcome IsSpent old request said new step) (outcome ItsSpent old request its its_new its_step)
  where
    by : Stands old request said → Stands old request its → is_refused its ≡ is_refused said
    by (inl (refusal, refuses, is)) (inl (other, also, its_is)) = its_is ∙ sym is
    by (inl (refusal, refuses, is)) (inr (free, its_is)) = absurd (free refusal refuses)
    by (inr (free, is)) (inl (refusal, refuses, its_is)) = absurd (free refusal refuses)
    by (inr (free, is)) (inr (also, its_is)) = its_is ∙ sym is

-- ---- what a request leaves of the history

-- what a done request leaves of the history
abbrev pub LeavesHistory : Recalling → Request → Recalling → Type 0
LeavesHistory old request new =
    MatchBool (changes_words request) (Forgets new) (MatchOption (article_changed old.wiki.state request) (Remembers old new) (NotesChange old new))

refused_leaves : (old : Recalling) (request : Request) (reply : Reply) (new : Recalling) → is_refused reply ≡ true → CarriesHistory old request reply new
    → Remembers old new
refused_leaves old request (replies.Refused refusal) new is carries = carries
refused_leaves old request reply new is carries = absurd (false≢true is)

pub done_leaves : (old : Recalling) (request : Request) (reply : Reply) (new : Recalling) → is_refused reply ≡ false → CarriesHistory old request reply new
    → LeavesHistory old request new
done_leaves old request (replies.Refused refusal) new is carries = absurd (false≢true (sym is))
done_leaves old request reply new is carries = carries

taken_map : {X Y : Type 0} (f : X → Y) (n : ℕ) (xs : List X) → map f (take n xs) ≡ take n (map f xs)
taken_map f zero xs = refl
taken_map f (suc n) [] = refl
taken_map {X} {Y} f (suc n) (x ∷ xs) = ap (λ (ys : List Y). f x ∷ ys) (taken_map f n xs)

-- what stands of the word's article, but for the interpretation
abbrev bare_of : List Article → WordId → Option Bare
bare_of articles word = option_map (λ (a : Article). (word, a.sentences)) (article_of articles word)

stood_of : (wiki : Holding) (word : WordId) → option_map stood (standing_of wiki word) ≡ bare_of wiki.state.stored.articles word
stood_of wiki word = by (article_of wiki.state.stored.articles word)
  where
    by : (o : Option Article) → option_map stood (option_map (λ (a : Article). standing wiki word a.sentences) o)
        ≡ option_map (λ (a : Article). (word, a.sentences)) o
    by None = refl
    by (Some a) = refl

-- lists of which the one has what stood in the other
abbrev HaveSame : Recalling → Recalling → Type 0
HaveSame one other = (map stood other.past ≡ map stood one.past) × (map stood other.future ≡ map stood one.future)

module _ (old other new its_new : Recalling) (twins : AreTwins old other) where
  same_articles : other.wiki.state.stored.articles ≡ old.wiki.state.stored.articles
  same_articles = ap (λ (s : State). s.stored.articles) twins.state

  remember_alike : Remembers old new → Remembers other its_new → HaveSame new its_new
  remember_alike is its = (
    ap (map stood) its.0 ∙ twins.past ∙ sym (ap (map stood) is.0),
    ap (map stood) its.1 ∙ twins.future ∙ sym (ap (map stood) is.1),
  )

  note_alike : (word : WordId) → NotesChange old new word → NotesChange other its_new word → HaveSame new its_new
  note_alike word is its =
      let both : Some (stood its.before) ≡ Some (stood is.before) =
      sym (ap (option_map stood) its.stood) ∙ stood_of other.wiki word ∙ ap (λ (those : List Article). bare_of those word) same_articles
      ∙ sym (stood_of old.wiki word) ∙ ap (option_map stood) is.stood in
      let same : stood its.before ≡ stood is.before = same_Some (stood its.before) (stood is.before) both in (
        ap (map stood) its.past ∙ taken_map stood MOST_ENTRIES (its.before ∷ other.past)
            ∙ ap (λ (b : Bare). take MOST_ENTRIES (b ∷ map stood other.past)) same
            ∙ ap (λ (bs : List Bare). take MOST_ENTRIES (stood is.before ∷ bs)) twins.past
            ∙ sym (taken_map stood MOST_ENTRIES (is.before ∷ old.past)) ∙ sym (ap (map stood) is.past),
        ap (map stood) its.future ∙ sym (ap (map stood) is.future),
      )

  leave_alike : (request : Request) → LeavesHistory old request new → LeavesHistory other request its_new → HaveSame new its_new
  leave_alike request is its =
      by (changes_words request) (article_changed old.wiki.state request) is
      (subst (λ (o : Option WordId). MatchBool (changes_words request) (Forgets its_new) (MatchOption o (Remembers other its_new) (NotesChange other its_new)))
      (ap (λ (s : State). article_changed s request) twins.state) its)
    where
      by : (b : Bool) (o : Option WordId) → MatchBool b (Forgets new) (MatchOption o (Remembers old new) (NotesChange old new))
          → MatchBool b (Forgets its_new) (MatchOption o (Remembers other its_new) (NotesChange other its_new)) → HaveSame new its_new
      by true o is its = (ap (map stood) (its.0 ∙ sym is.0), ap (map stood) (its.1 ∙ sym is.1))
      by false None is its = remember_alike is its
      by false (Some word) is its = note_alike word is its

  carry_alike : (request : Request) (said reply : Reply) → is_refused reply ≡ is_refused said → CarriesHistory old request said new
      → CarriesHistory other request reply its_new → HaveSame new its_new
  carry_alike request said reply same is its = by (is_refused said) refl
    where
      by : (b : Bool) → is_refused said ≡ b → HaveSame new its_new
      by true refused = remember_alike (refused_leaves old request said new refused is) (refused_leaves other request reply its_new (same ∙ refused) its)
      by false done = leave_alike request (done_leaves old request said new done is) (done_leaves other request reply its_new (same ∙ done) its)

  step_alike : (request : Request) (said reply : Reply) → KeptTurn old (lines.Step request) said new → KeptTurn other (lines.Step request) reply its_new
      → tells_spent said ≡ false → tells_spent reply ≡ false → AreTwins new its_new
  step_alike request said reply turn its_turn kept also_kept =
      let step : Step (IsCutOff other.wiki.budget) old.wiki.state request reply its_new.wiki.state =
      subst (λ (s : State). Step (IsCutOff other.wiki.budget) s request reply its_new.wiki.state) twins.state its_turn.0.step in
      let refused = refused_alike (IsCutOff old.wiki.budget) (IsCutOff other.wiki.budget) old.wiki.state request said reply new.wiki.state its_new.wiki.state
      turn.0.step step in
      let both = carry_alike request said reply refused turn.1 its_turn.1 in
      record {
        state = step_one (IsCutOff old.wiki.budget) (IsCutOff other.wiki.budget) old.wiki.state said reply new.wiki.state its_new.wiki.state kept also_kept
            request turn.0.step step;
        past = both.0;
        future = both.1;
      }

-- ---- what is taken back or done again

abbrev newest_of : List Bare → Option Bare
newest_of [] = None
newest_of (b ∷ bs) = Some b

abbrev others_of : List Bare → List Bare
others_of [] = []
others_of (b ∷ bs) = bs

-- the state in which it was put back
abbrev putting : State → Bare → State
putting state before = record state { stored = with_sentences state.stored before.0 before.1 }

module _ (old other : Holding) (same : other.state ≡ old.state) (from onto its_from its_onto : List Former)
    (same_from : map stood its_from ≡ map stood from) (same_onto : map stood its_onto ≡ map stood onto) (answer : List ℕ → Reply) where
  articles_alike : other.state.stored.articles ≡ old.state.stored.articles
  articles_alike = ap (λ (s : State). s.stored.articles) same

  -- the newest of both, and their articles
  newest_alike : (before its_before : Former) (rest its_rest : List Former) → from ≡ before ∷ rest → its_from ≡ its_before ∷ its_rest
      → stood its_before ≡ stood before
  newest_alike before its_before rest its_rest is its =
      same_Some (stood its_before) (stood before)
      (sym (ap (λ (fs : List Former). newest_of (map stood fs)) its) ∙ ap newest_of same_from ∙ ap (λ (fs : List Former). newest_of (map stood fs)) is)

  article_alike : (before its_before : Former) (article its_article : Article) → stood its_before ≡ stood before
      → article_of old.state.stored.articles before.article ≡ Some article → article_of other.state.stored.articles its_before.article ≡ Some its_article
      → its_article ≡ article
  article_alike before its_before article its_article alike there its_there =
      same_Some its_article article
      (sym its_there ∙ ap (λ (b : Bare). article_of other.state.stored.articles b.0) alike
      ∙ ap (λ (those : List Article). article_of those before.article) articles_alike ∙ there)

  -- nothing is put back in the one, and something in the other
  nothing_there : (refusal : Refusal) → HasNothing from refusal → (before : Former) (rest : List Former) → its_from ≡ before ∷ rest → ⊥
  nothing_there refusal nothing before rest is =
      none-some (stood before)
      (sym (ap (λ (fs : List Former). newest_of (map stood fs)) nothing.none) ∙ sym (ap newest_of same_from)
      ∙ ap (λ (fs : List Former). newest_of (map stood fs)) is)

  last_there : (refusal : Refusal) (reply : Reply) (new : Holding) (from_after onto_after : List Former) → IsAtLastRevision old from refusal
      → PutsBack other its_from its_onto answer reply new from_after onto_after → ⊥
  last_there refusal reply new from_after onto_after at_last puts =
      let alike = newest_alike at_last.before puts.before at_last.others from_after at_last.newest puts.newest in
      let article = article_alike at_last.before puts.before at_last.article puts.article alike at_last.there puts.there in
      let rises : at_last.article.revision.0 < LAST_NUMBER = subst (λ (a : Article). a.revision.0 < LAST_NUMBER) article puts.rises in
      let last = at_last.last in
      omega (arith, rises, last)

  never_done : (refusal : Refusal) (reply : Reply) (new : Holding) (from_after onto_after : List Former)
      → HasNothing from refusal ⊎ IsAtLastRevision old from refusal → PutsBack other its_from its_onto answer reply new from_after onto_after → ⊥
  never_done refusal reply new from_after onto_after (inl nothing) puts = nothing_there refusal nothing puts.before from_after puts.newest
  never_done refusal reply new from_after onto_after (inr at_last) puts = last_there refusal reply new from_after onto_after at_last puts

  -- both put back the same
  put_alike : (said reply : Reply) (new its_new : Holding) (from_after onto_after its_from_after its_onto_after : List Former)
      → PutsBack old from onto answer said new from_after onto_after
      → PutsBack other its_from its_onto answer reply its_new its_from_after its_onto_after
      → (its_new.state ≡ new.state) × (map stood its_from_after ≡ map stood from_after) × (map stood its_onto_after ≡ map stood onto_after)
  put_alike said reply new its_new from_after onto_after its_from_after its_onto_after is its =
      let alike = newest_alike is.before its.before from_after its_from_after is.newest its.newest in
      let article = article_alike is.before its.before is.article its.article alike is.there its.there in (
        ap (λ (w : Holding). w.state) its.after ∙ ap (λ (s : State). putting s (stood its.before)) same
            ∙ ap (λ (b : Bare). putting old.state b) alike ∙ sym (ap (λ (w : Holding). w.state) is.after),
        sym (ap (λ (fs : List Former). others_of (map stood fs)) its.newest) ∙ ap others_of same_from
            ∙ ap (λ (fs : List Former). others_of (map stood fs)) is.newest,
        ap (map stood) its.other ∙ ap (λ (b : Bare). (b.0, its.article.sentences) ∷ map stood its_onto) alike
            ∙ ap (λ (a : Article). (is.before.article, a.sentences) ∷ map stood its_onto) article
            ∙ ap (λ (bs : List Bare). (is.before.article, is.article.sentences) ∷ bs) same_onto ∙ sym (ap (map stood) is.other),
      )

-- moves from lists of the same
move_alike : (old other : Holding) (from onto its_from its_onto : List Former) (answer : List ℕ → Reply) (said reply : Reply)
    (new its_new : Holding) (from_after onto_after its_from_after its_onto_after : List Former) → other.state ≡ old.state
    → map stood its_from ≡ map stood from → map stood its_onto ≡ map stood onto → Moves old from onto answer said new from_after onto_after
    → Moves other its_from its_onto answer reply its_new its_from_after its_onto_after
    → (its_new.state ≡ new.state) × (map stood its_from_after ≡ map stood from_after) × (map stood its_onto_after ≡ map stood onto_after)
move_alike old other from onto its_from its_onto answer said reply new its_new from_after onto_after its_from_after its_onto_after same same_from
    same_onto moves its_moves =
    by (move_outcome old from onto answer said new from_after onto_after moves)
    (move_outcome other its_from its_onto answer reply its_new its_from_after its_onto_after its_moves)
  where
    by : ((refusal : Refusal) × IsStill old from onto refusal new from_after onto_after) ⊎ PutsBack old from onto answer said new from_after onto_after
        → ((refusal : Refusal) × IsStill other its_from its_onto refusal its_new its_from_after its_onto_after)
        ⊎ PutsBack other its_from its_onto answer reply its_new its_from_after its_onto_after
        → (its_new.state ≡ new.state) × (map stood its_from_after ≡ map stood from_after) × (map stood its_onto_after ≡ map stood onto_after)
    by (inl (refusal, still)) (inl (its_refusal, its_still)) = (
      ap (λ (w : Holding). w.state) its_still.1 ∙ same ∙ sym (ap (λ (w : Holding). w.state) still.1),
      ap (map stood) its_still.2 ∙ same_from ∙ sym (ap (map stood) still.2),
      ap (map stood) its_still.3 ∙ same_onto ∙ sym (ap (map stood) still.3),
    )
    by (inl (refusal, still)) (inr puts) =
        absurd (never_done old other same from onto its_from its_onto same_from same_onto answer refusal reply its_new its_from_after its_onto_after
        still.0 puts)
    by (inr puts) (inl (refusal, still)) =
        absurd (never_done other old (sym same) its_from its_onto from onto (sym same_from) (sym same_onto) answer refusal said new from_after
        onto_after still.0 puts)
    by (inr puts) (inr its_puts) =
        put_alike old other same from onto its_from its_onto same_from same_onto answer said reply new its_new from_after onto_after its_from_after
        its_onto_after puts its_puts

-- ---- one turn

-- the line's request tells of a spent budget
abbrev pub spends : LineRequest → Reply → Bool
spends request reply = is_spent_in (exchange_of (answered request reply))

-- Where no budget is spent, twins that are asked the same stay twins.
pub turn_alike : (old other : Recalling) (request : LineRequest) (said reply : Reply) (new its_new : Recalling)
    → AreTwins old other → KeptTurn old request said new → KeptTurn other request reply its_new → spends request said ≡ false
    → spends request reply ≡ false → AreTwins new its_new
turn_alike old other (lines.Step request) said reply new its_new twins turn its_turn kept also_kept =
    step_alike old other new its_new twins request said reply turn its_turn kept also_kept
turn_alike old other lines.Undo said reply new its_new twins turn its_turn kept also_kept =
    let all = move_alike old.wiki other.wiki old.past old.future other.past other.future replies.Undo said reply new.wiki its_new.wiki new.past
    new.future its_new.past its_new.future twins.state twins.past twins.future turn its_turn in
    record { state = all.0; past = all.1; future = all.2 }
turn_alike old other lines.Redo said reply new its_new twins turn its_turn kept also_kept =
    let all = move_alike old.wiki other.wiki old.future old.past other.future other.past replies.Redo said reply new.wiki its_new.wiki new.future
    new.past its_new.future its_new.past twins.state twins.future twins.past turn its_turn in
    record { state = all.0; past = all.2; future = all.1 }
