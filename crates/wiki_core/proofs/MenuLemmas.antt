-- What is told of tokens is one thing.
use Rattle.std.proofs.Common.{
  ◌≡◌,
  ℕ,
  zero,
  suc,
  ◌<◌,
  ◌⊎◌,
  Bool,
  true,
  false,
  List,
  [],
  ◌∷◌,
  ◌++◌,
  All,
  AllPairs,
  Option,
  Some,
  None,
  option_map,
  IsTrue,
  ◌↔◌,
  refl,
  sym,
  ap,
  subst,
  ◌∙◌,
  arith,
  inl,
  inr,
}
use Rattle.std.specs.List.{Contains}
use Rattle.std.specs.Str.{IsUtf8}
use Rattle.std.specs.Ordering.{ordering_reverse}
use Rattle.std.specs.declared.cmp.Ordering.TheVariants.{Less, Greater}
use Rattle.std.proofs.lemmas.Option.{none-some, same_Some}
use Rattle.std.proofs.lemmas.List.Elements.{All-contains}
use Rattle.wiki_base.proofs.ListLaws.{AllPairs-tail}
use Rattle.codeco_terms.specs.GrammarParts.{GrammarParts}
use Rattle.lexicon.specs.Words.{Listed}
use Rattle.derivation_trees.specs.declared.menus.Group.{Group}
use Rattle.derivation_trees.specs.Cutting.{shown}
use Rattle.derivation_trees.specs.Menus.{entry_cmp}
use Rattle.derivations.proofs.EntryLemmas.{entry_total, entry_trans}
use Rattle.derivation_trees.specs.Trees.{Node}
use Rattle.derivation_trees.specs.Settings.{Setting}
use Rattle.derivation_trees.specs.Derives.{IsDerivation}
use Rattle.derivations.specs.Typing.{IsTextMenu}
use Rattle.sessions.specs.declared.session.Session.{Session}
use Rattle.plain_wiki.specs.Sessions.{PlainSession}
use Rattle.sessions.specs.Sessions.{plain, IsKept}
use Rattle.wiki_talk.specs.declared.replies.MenuView.{MenuView}
use Rattle.wiki_talk.specs.declared.replies.Reply.{Reply}
use Rattle.wiki_talk.specs.declared.replies.Reply.TheVariants as replies
use Rattle.wiki_talk.specs.declared.requests.Request.{Request}
use Rattle.wiki_talk.specs.declared.requests.Request.TheVariants as requests
use Rattle.wiki_talk.specs.declared.requests.SessionRequest.TheVariants as of_session
use Rattle.plain_wiki.specs.Parsing.{told_menu}
use Rattle.plain_wiki.specs.State.{State}
use Rattle.plain_wiki.specs.Places.{session_numbered}
use Rattle.plain_wiki.specs.Step.{Step}
use Rattle.plain_wiki.specs.Knowledge.{Spending}
use Rattle.plain_wiki.specs.Step.{OnlyTells}
use Rattle.plain_wiki.specs.Doing.{TellsMenu}
use Rattle.wiki_core.specs.Apart.{tokens_in, MenuIsOwn}
use Rattle.std.specs.Option.{IsSomeAnd}
use Rattle.wiki_talk.specs.declared.refusals.Refusal.TheVariants.{NoSession}
use Rattle.plain_wiki.specs.Causes.{FirstOf, of_named}
use Rattle.wiki_parts.specs.Spending.{IsCutOff}
use Rattle.wiki_parts.proofs.FirstLemmas.{nothing_stands}
use Rattle.wiki_core.proofs.KeyLaws.{pairs_head}
use Rattle.wiki_core.proofs.NamedLemmas.{free_named, some_and}

-- what is in a list is its head, or in its tail
head_or_later : {X : Type 0} (y : X) (ys : List X) (x : X) → Contains (y ∷ ys) x → (y ≡ x) ⊎ Contains ys x
head_or_later y ys x (zero, within, is) = inl is
head_or_later y ys x (suc k, within, is) = inr (k, omega (arith, within), is)

head_there : {X : Type 0} (x : X) (xs : List X) → Contains (x ∷ xs) x
head_there x xs = (zero, omega arith, refl)

later_there : {X : Type 0} (y : X) (ys : List X) (x : X) → Contains ys x → Contains (y ∷ ys) x
later_there y ys x (k, within, is) = (suc k, omega (arith, within), is)

-- two lists in a strict order with the same elements are one
module _ {X : Type 0} (R : X → X → Type 0) (never : (x : X) → R x x → ⊥) (trans : (x y z : X) → R x y → R y z → R x z) where
  same_head : (x y : X) (xs ys : List X) → AllPairs R (x ∷ xs) → AllPairs R (y ∷ ys) → Contains (y ∷ ys) x → Contains (x ∷ xs) y → y ≡ x
  same_head x y xs ys rise its_rise there its_there = by_cases (head_or_later y ys x there) (head_or_later x xs y its_there)
    where
      by_cases : (y ≡ x) ⊎ Contains ys x → (x ≡ y) ⊎ Contains xs y → y ≡ x
      by_cases (inl same) other = same
      by_cases (inr later) (inl same) = sym same
      by_cases (inr later) (inr its_later) =
          absurd (never x (trans x y x (All-contains (R x) xs y (pairs_head R x xs rise) its_later)
          (All-contains (R y) ys x (pairs_head R y ys its_rise) later)))

  rest_there : (x : X) (xs ys : List X) → AllPairs R (x ∷ xs) → ((e : X) → Contains (x ∷ xs) e → Contains (x ∷ ys) e) → (e : X) → Contains xs e → Contains ys e
  rest_there x xs ys rise there e within = by_case (head_or_later x ys e (there e (later_there x xs e within)))
    where
      by_case : (x ≡ e) ⊎ Contains ys e → Contains ys e
      by_case (inl same) = absurd (never x (subst (R x) (sym same) (All-contains (R x) xs e (pairs_head R x xs rise) within)))
      by_case (inr later) = later

  pub ordered_one : (xs ys : List X) → AllPairs R xs → AllPairs R ys → ((e : X) → Contains xs e → Contains ys e) → ((e : X) → Contains ys e → Contains xs e)
      → ys ≡ xs
  ordered_one [] [] rise its_rise there its_there = refl
  ordered_one [] (y ∷ ys) rise its_rise there its_there = let none = its_there y (head_there y ys) in absurd (omega (arith, none.1))
  ordered_one (x ∷ xs) [] rise its_rise there its_there = let none = there x (head_there x xs) in absurd (omega (arith, none.1))
  ordered_one (x ∷ xs) (y ∷ ys) rise its_rise there its_there =
      let same = same_head x y xs ys rise its_rise (there x (head_there x xs)) (its_there y (head_there y ys)) in
      let its_rise_x = subst (λ (h : X). AllPairs R (h ∷ ys)) same its_rise in
      let there_x = subst (λ (h : X). (e : X) → Contains (x ∷ xs) e → Contains (h ∷ ys) e) same there in
      let its_there_x = subst (λ (h : X). (e : X) → Contains (h ∷ ys) e → Contains (x ∷ xs) e) same its_there in
      let rest = ordered_one xs ys (AllPairs-tail R x xs rise) (AllPairs-tail R x ys its_rise_x) (rest_there x xs ys rise there_x)
      (rest_there x ys xs its_rise_x its_there_x) in
      ap (λ (h : X). h ∷ ys) same ∙ ap (λ (t : List X). x ∷ t) rest

less_greater : Less ≡ Greater → ⊥
less_greater same = cc

-- no entry stands before itself
not_before_itself : (entry : Group × List ℕ) → entry_cmp entry entry ≡ Less → ⊥
not_before_itself entry before = less_greater (sym before ∙ entry_total.antisymm entry entry ∙ ap ordering_reverse before)

-- the truth of a test is one
same_test : (a b : Bool) → (IsTrue a → IsTrue b) → (IsTrue b → IsTrue a) → b ≡ a
same_test true true there back = refl
same_test true false there back = there refl
same_test false true there back = sym (back refl)
same_test false false there back = refl

-- what is told of tokens is one reply
tells_one : (g : GrammarParts) (words : Listed) (tokens : List (List ℕ)) (one other : Reply) → TellsMenu g words tokens one → TellsMenu g words tokens other
    → other ≡ one
tells_one g words tokens one other tells its =
    let same = ordered_one (λ entry later. entry_cmp entry later ≡ Less) not_before_itself entry_trans tells.menu its.menu tells.follows.in_order
    its.follows.in_order
    (λ e there. its.follows.whole e (All-contains (λ entry. IsUtf8 entry.1) tells.menu e tells.texts there) (tells.follows.offered e there))
    (λ e there. tells.follows.whole e (All-contains (λ entry. IsUtf8 entry.1) its.menu e its.texts there) (its.follows.offered e there)) in
    let same_whole = same_test tells.whole its.whole (λ is. its.is_whole.1 (tells.is_whole.0 is)) (λ is. tells.is_whole.1 (its.is_whole.0 is)) in
    its.answer
    ∙ ap (λ (menu : List (Group × List ℕ)). replies.Menu (told_menu menu) its.whole (shown g.terminals tokens)) same
    ∙ ap (λ (whole : Bool). replies.Menu (told_menu tells.menu) whole (shown g.terminals tokens)) same_whole
    ∙ sym tells.answer

-- the reply to `menu` of a session that is there tells of its tokens
told_of : (IsSpent : Spending) (state new : State) (number : ℕ) (tokens : List (List ℕ)) (reply : Reply) → tokens_in state number ≡ Some tokens
    → Step IsSpent state (requests.OnSession number of_session.Menu) reply new
    → TellsMenu state.stored.grammar state.stored.words tokens reply
told_of IsSpent state new number tokens (replies.Refused refusal) there step = absurd (by (session_numbered state number) there step.0)
  where
    by : (o : Option PlainSession) → option_map (λ (s : PlainSession). s.tokens) o ≡ Some tokens → FirstOf (of_named o (NoSession number) (λ _. [])) refusal → ⊥
    by None none first = none-some tokens none
    by (Some s) named first = first
told_of IsSpent state new number tokens reply there step = by (session_numbered state number) there step.1
  where
    by : (o : Option PlainSession) → option_map (λ (s : PlainSession). s.tokens) o ≡ Some tokens
        → IsSomeAnd o (λ s. OnlyTells (TellsMenu state.stored.grammar state.stored.words s.tokens) state reply new)
        → TellsMenu state.stored.grammar state.stored.words tokens reply
    by None none tells = absurd tells
    by (Some s) named tells = subst (λ (ts : List (List ℕ)). TellsMenu state.stored.grammar state.stored.words ts reply) (same_Some s.tokens tokens named)
        tells.0

-- so it is a function of the grammar, the words and the tokens
pub menu_own : (budget : ℕ) (state new : State) (request : Request) (reply : Reply) → Step (IsCutOff budget) state request reply new
    → MenuIsOwn state request reply
menu_own budget state new (requests.OnSession number of_session.Menu) reply step = λ other its_budget its_number said after alike its_step.
    let its = told_of (IsCutOff its_budget) other after its_number alike.tokens said alike.its its_step in
    let by_grammar = subst (λ (g : GrammarParts). TellsMenu g other.stored.words alike.tokens said) alike.grammar its in
    let by_words = subst (λ (words : Listed). TellsMenu state.stored.grammar words alike.tokens said) alike.words by_grammar in
    tells_one state.stored.grammar state.stored.words alike.tokens reply said (told_of (IsCutOff budget) state new number alike.tokens reply alike.own step)
    by_words
menu_own budget state new request reply step = tt

-- what an editor tells of a session is what is told of its tokens
pub menu_told : (IsSpent : Spending) (state : State) (number : ℕ) (session : Session) (g h : GrammarParts) (words : Listed) (tokens : List (List ℕ))
    (menu : List (Group × List ℕ)) (view : MenuView) (whole : Bool) (text : List ℕ)
    → g ≡ state.stored.grammar → h ≡ state.stored.grammar → words ≡ state.stored.words → tokens ≡ session.editor.tokens
    → session_numbered state number ≡ Some (plain session)
    → IsKept state.stored.grammar state.stored.words session → IsTextMenu g words session.editor.tokens menu → All (λ entry. IsUtf8 entry.1) menu
    → view ≡ told_menu menu
    → (IsTrue whole ↔ ((tree : Node) × IsDerivation session.editor tree)) → text ≡ shown h.terminals tokens
    → Step IsSpent state (requests.OnSession number of_session.Menu) (replies.Menu view whole text) state
menu_told IsSpent state number session g h words tokens menu view whole text same_g same_h same_words same_tokens named kept follows texts told
    is_whole shows = (
      free_named (session_numbered state number) (NoSession number) (λ _. []) (plain session) named nothing_stands,
      some_and (session_numbered state number)
          (λ s. OnlyTells (TellsMenu state.stored.grammar state.stored.words s.tokens) state (replies.Menu view whole text) state) (plain session) named
          (tells, refl),
    )
  where
    tells : TellsMenu state.stored.grammar state.stored.words session.editor.tokens (replies.Menu view whole text)
    tells = record {
      menu = menu;
      follows = subst (λ (p : GrammarParts). IsTextMenu p state.stored.words session.editor.tokens menu) same_g
          (subst (λ (w : Listed). IsTextMenu g w session.editor.tokens menu) same_words follows);
      texts = texts;
      whole = whole;
      is_whole = subst (λ (s : Setting). IsTrue whole ↔ ((tree : Node) × IsDerivation s tree)) kept is_whole;
      answer = ap (λ (v : MenuView). replies.Menu v whole text) told
          ∙ ap (λ (t : List ℕ). replies.Menu (told_menu menu) whole t)
          (shows ∙ ap (λ (p : GrammarParts). shown p.terminals tokens) same_h
          ∙ ap (λ (ts : List (List ℕ)). shown state.stored.grammar.terminals ts) same_tokens);
    }
