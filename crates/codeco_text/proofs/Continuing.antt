-- Each reading can go on to a sentence.
use Rattle.std.proofs.Common.{◌≡◌, ℕ, ◌+◌, ◌<◌, ◌≤◌, Bool, true, false, cond, eqb, ◌&&◌, ◌||◌, ◌⊎◌, List, [], ◌∷◌, ◌++◌, Option, Some, None, refl, sym, ap, subst, ◌∙◌, append_assoc, inl, inr}
use Rattle.std.specs.Prelude.{is_some, codes, flat_map}
use Rattle.std.specs.List.{list_all}
use Rattle.std.proofs.lemmas.List.{append-nil}
use Rattle.std.proofs.lemmas.List.Folds.{list_all-append}
use Rattle.std.proofs.lemmas.Bool.{eqb-true, cases_Bool, both_ways, and_parts, and_from, or_cases, or_from, not_from_false}
use Rattle.std.proofs.lemmas.Option.{same_Some}
use Rattle.codeco_text.specs.declared.symbols.Sign.{Sign}
use Rattle.codeco_text.specs.declared.symbols.Sign.TheVariants as sign
use Rattle.codeco_text.specs.declared.symbols.Lexeme.{Lexeme}
use Rattle.codeco_text.specs.declared.symbols.Lexeme.TheVariants as lexeme
use Rattle.codeco_text.specs.declared.spot.Role.{Role}
use Rattle.codeco_text.specs.declared.spot.Role.TheVariants as role
use Rattle.codeco_text.specs.declared.spot.Part.{Part}
use Rattle.codeco_text.specs.declared.spot.Part.TheVariants as part
use Rattle.codeco_text.specs.declared.spot.Spot.{Spot}
use Rattle.codeco_text.specs.declared.spot.Spot.TheVariants as spot
use Rattle.codeco_text.specs.declared.spot.Wanted.{Wanted}
use Rattle.codeco_text.specs.declared.spot.Wanted.TheVariants as wanted
use Rattle.codeco_text.specs.declared.builder.Builder.{Builder}
use Rattle.codeco_text.specs.Names.{same_bytes, is_among, is_space, is_lower, is_upper, is_word_byte, is_lower_word, is_identifier, is_variable, is_terminal, is_terminal_byte, ends_well, keywords}
use Rattle.codeco_text.specs.Notation.{labels, kinds, lexeme_bytes, is_symbol, goes_on, Begins, SpellsFrom}
use Rattle.codeco_text.specs.Reading.{◌>>=◌, wants, may_begin, may_go_on, next_spot}
use Rattle.codeco_text.specs.Building.{push, grow}
use Rattle.codeco_text.specs.Scanning.{Mode, between, comment, word, terminal, dash, dashes, tilde, tildes, slash, greater, takes_sign, takes_terminal, guard, behind, single, begin, begin_sign, begin_dash, begin_single, finish, step, if_terminal}
use Rattle.codeco_text.proofs.Growth.{same_is}
use Rattle.codeco_text.proofs.Trees.{runs}
use Rattle.codeco_text.proofs.Soundness.{bind_some, guard_some, behind_some, chosen}
use Rattle.codeco_text.proofs.Spelled.{front, final}
use Rattle.codeco_text.proofs.Standing.{wants_names, wants_variables, name_next, variable_next, label_next, kind_next}
use Rattle.codeco_text.proofs.Spelling.{front_among}
use Rattle.codeco_text.proofs.Complete.{spelled_final}

-- The shortest ends

abbrev a_name : Lexeme
a_name = lexeme.Identifier (codes "a")

abbrev stops : List Lexeme
stops = lexeme.Sign sign.Stop ∷ []

abbrev arrow_stops : List Lexeme
arrow_stops = lexeme.Sign sign.Normal ∷ lexeme.Sign sign.Stop ∷ []

abbrev after_end : Role → List Lexeme
after_end role.Head = arrow_stops
after_end _ = stops

abbrev part_end : Part → Role → List Lexeme
part_end part.Name role.Preterminal = lexeme.Kind (codes "of") ∷ stops
part_end part.Name r = a_name ∷ after_end r
part_end part.Named r = after_end r
part_end part.Feature r = a_name ∷ lexeme.Sign sign.Colon ∷ a_name ∷ lexeme.Sign sign.CloseParen ∷ after_end r
part_end part.Colon r = lexeme.Sign sign.Colon ∷ a_name ∷ lexeme.Sign sign.CloseParen ∷ after_end r
part_end part.Term r = a_name ∷ lexeme.Sign sign.CloseParen ∷ after_end r
part_end part.Taken r = lexeme.Variable (codes "A") ∷ lexeme.Sign sign.CloseParen ∷ after_end r
part_end part.Next r = lexeme.Sign sign.CloseParen ∷ after_end r
part_end part.Whole r = after_end r

-- symbols that lead from here to between items
abbrev pub ending : Spot → List Lexeme
ending spot.Items = []
ending spot.LabelName = lexeme.Label (codes "no") ∷ lexeme.Sign sign.CloseBrace ∷ a_name ∷ arrow_stops
ending spot.LabelEnd = lexeme.Sign sign.CloseBrace ∷ a_name ∷ arrow_stops
ending spot.RuleHead = a_name ∷ arrow_stops
ending spot.FeatureName = a_name ∷ lexeme.Sign sign.Colon ∷ a_name ∷ stops
ending spot.FeatureColon = lexeme.Sign sign.Colon ∷ a_name ∷ stops
ending spot.FeatureValue = a_name ∷ stops
ending spot.AtomName = a_name ∷ stops
ending (spot.Category p r) = part_end p r
ending spot.Arrow = arrow_stops
ending spot.PositionName = lexeme.Variable (codes "A") ∷ stops
ending spot.BackPattern = lexeme.Sign sign.Plus ∷ a_name ∷ stops
ending spot.AbsentPattern = lexeme.Sign sign.Plus ∷ a_name ∷ stops
ending _ = stops

ending_leads : (s : Spot) → runs s (ending s) ≡ Some spot.Items
ending_leads (spot.Category part.Name role.Head) = refl
ending_leads (spot.Category part.Named role.Head) = refl
ending_leads (spot.Category part.Feature role.Head) = refl
ending_leads (spot.Category part.Colon role.Head) = refl
ending_leads (spot.Category part.Term role.Head) = refl
ending_leads (spot.Category part.Taken role.Head) = refl
ending_leads (spot.Category part.Next role.Head) = refl
ending_leads (spot.Category part.Whole role.Head) = refl
ending_leads s = refl

ending_symbols : (s : Spot) → list_all is_symbol (ending s) ≡ true
ending_symbols (spot.Category part.Name role.Head) = refl
ending_symbols (spot.Category part.Named role.Head) = refl
ending_symbols (spot.Category part.Feature role.Head) = refl
ending_symbols (spot.Category part.Colon role.Head) = refl
ending_symbols (spot.Category part.Term role.Head) = refl
ending_symbols (spot.Category part.Taken role.Head) = refl
ending_symbols (spot.Category part.Next role.Head) = refl
ending_symbols (spot.Category part.Whole role.Head) = refl
ending_symbols s = refl

-- each with a space before it
abbrev pub spaced : List Lexeme → List ℕ
spaced xs = flat_map (λ x. 32 ∷ lexeme_bytes x) xs

space_stops : (x : Lexeme) (rest : List ℕ) → goes_on x (32 ∷ rest) ≡ false
space_stops (lexeme.Sign sign.Weak) rest = refl
space_stops x rest = refl

empty_stops : (x : Lexeme) → goes_on x [] ≡ false
empty_stops (lexeme.Sign sign.Weak) = refl
empty_stops x = refl

spaced_stops : (x : Lexeme) (xs : List Lexeme) → goes_on x (spaced xs) ≡ false
spaced_stops x [] = empty_stops x
spaced_stops x (y ∷ ys) = space_stops x (lexeme_bytes y ++ spaced ys)

spaced_spells : (xs : List Lexeme) → list_all is_symbol xs ≡ true → SpellsFrom false (spaced xs) xs
spaced_spells [] h = refl
spaced_spells (x ∷ xs) h =
    let parts = and_parts (is_symbol x) (list_all is_symbol xs) h in
    let begins : Begins false (spaced (x ∷ xs)) x (spaced xs) =
    record { gap = 32 ∷ []; between = refl; symbol = parts.0; longest = spaced_stops x xs; parts = refl } in
    (spaced xs, begins, spaced_spells xs parts.1)

-- Where a reading is

abbrev pub reach : Builder → Mode → List ℕ → Option (Builder × Mode)
reach b m [] = Some (b, m)
reach b m (x ∷ xs) = step b m x >>= λ s. reach s.0 s.1 xs

bind-assoc : {A B C : Type 0} (o : Option A) (f : A → Option B) (g : B → Option C) → ((o >>= f) >>= g) ≡ (o >>= λ x. f x >>= g)
bind-assoc None f g = refl
bind-assoc (Some x) f g = refl

bind_same : {A B : Type 0} (o : Option A) (f g : A → Option B) → ((x : A) → f x ≡ g x) → (o >>= f) ≡ (o >>= g)
bind_same None f g h = refl
bind_same (Some x) f g h = h x

bind_some_is : {A : Type 0} (o : Option A) → (o >>= λ x. Some x) ≡ o
bind_some_is None = refl
bind_some_is (Some x) = refl

pub reach_final : (xs ys : List ℕ) (b : Builder) (m : Mode) → final b m (xs ++ ys) ≡ (reach b m xs >>= λ s. final s.0 s.1 ys)
reach_final [] ys b m = refl
reach_final (x ∷ xs) ys b m = bind_same (step b m x) (λ s. final s.0 s.1 (xs ++ ys)) (λ s. reach s.0 s.1 xs >>= λ t. final t.0 t.1 ys)
    (λ s. reach_final xs ys s.0 s.1) ∙ sym (bind-assoc (step b m x) (λ s. reach s.0 s.1 xs) (λ t. final t.0 t.1 ys))

pub reach_append : (xs ys : List ℕ) (b : Builder) (m : Mode) → reach b m (xs ++ ys) ≡ (reach b m xs >>= λ s. reach s.0 s.1 ys)
reach_append [] ys b m = refl
reach_append (x ∷ xs) ys b m = bind_same (step b m x) (λ s. reach s.0 s.1 (xs ++ ys)) (λ s. reach s.0 s.1 xs >>= λ t. reach t.0 t.1 ys)
    (λ s. reach_append xs ys s.0 s.1) ∙ sym (bind-assoc (step b m x) (λ s. reach s.0 s.1 xs) (λ t. reach t.0 t.1 ys))

reach_one : (b : Builder) (m : Mode) (x : ℕ) → reach b m (x ∷ []) ≡ step b m x
reach_one b m x = bind_some_is (step b m x)

reach_push : (xs : List ℕ) (x : ℕ) (b c : Builder) (m k : Mode) → reach b m xs ≡ Some (c, k) → reach b m (push xs x) ≡ step c k x
reach_push xs x b c m k e = reach_append xs (x ∷ []) b m ∙ ap (λ (o : Option (Builder × Mode)). o >>= λ s. reach s.0 s.1 (x ∷ [])) e ∙ reach_one c k x

-- in a word
pub record WordFits (b : Builder) (w : List ℕ) : Type 0 where
  pub reached : reach b between w ≡ Some (b, word w)
  pub first : ℕ
  pub others : List ℕ
  pub parts : w ≡ first ∷ others
  pub begins : may_begin (wants b.spot) first ≡ true
  pub letters : list_all is_word_byte others ≡ true
  pub going : may_go_on (wants b.spot) w ≡ true

pub record TerminalFits (b : Builder) (t : List ℕ) : Type 0 where
  pub reached : reach b between (91 ∷ t) ≡ Some (b, terminal t)
  pub takes : takes_terminal b ≡ true
  pub bytes : list_all is_terminal_byte t ≡ true

pub record SignFits (b : Builder) (m : Mode) (s : Sign) : Type 0 where
  pub reached : reach b between (front m) ≡ Some (b, m)
  pub takes : takes_sign b s ≡ true

-- what is known of a reading
abbrev pub Fits : Builder → Mode → Type 0
Fits b (word w) = WordFits b w
Fits b (terminal t) = TerminalFits b t
Fits b dash = SignFits b dash sign.Normal
Fits b dashes = SignFits b dashes sign.Normal
Fits b tilde = SignFits b tilde sign.Closing
Fits b tildes = SignFits b tildes sign.Closing
Fits b slash = SignFits b slash sign.Scope
Fits b greater = SignFits b greater sign.Weak
Fits b _ = Unit {0}

abbrev pub FitsAt : Builder × Mode → Type 0
FitsAt s = Fits s.0 s.1

behind_fits : (o : Option Builder) (s : Builder × Mode) → behind o ≡ Some s → FitsAt s
behind_fits o s e = let g = behind_some o s e in subst FitsAt g.2 tt

begin_goes : (k : Wanted) (x : ℕ) → may_begin k x ≡ true → may_go_on k (x ∷ []) ≡ true
begin_goes wanted.Label x h = h
begin_goes wanted.Kind x h = h
begin_goes k x h = refl

-- a sign begins
sign_fits : (b : Builder) (m : Mode) (y : Sign) (x : ℕ) (s : Builder × Mode) → begin b x ≡ Some s → front m ≡ x ∷ [] → guard (takes_sign b y) (b, m) ≡ Some s
    → (SignFits b m y → Fits b m) → FitsAt s
sign_fits b m y x s e f g fits =
    let h = guard_some (takes_sign b y) (b, m) s g in
    let reached : reach b between (front m) ≡ Some (b, m) = ap (reach b between) f ∙ reach_one b between x ∙ e ∙ ap Some (sym h.1) in
    subst FitsAt h.1 (fits (record { reached = reached; takes = h.0 }))

begin_fits : (b : Builder) (x : ℕ) (s : Builder × Mode) → begin b x ≡ Some s → FitsAt s
begin_fits b x s e = elim (chosen (is_space x) (Some (b, between)) _ (Some s) e) [
  | inl p ↦ subst FitsAt (same_Some (b, between) s p.1) tt
  | inr p ↦ elim (chosen (eqb x 37) (Some (b, comment)) _ (Some s) p.1) [
    | inl q ↦ subst FitsAt (same_Some (b, comment) s q.1) tt
    | inr q ↦ elim (chosen (may_begin (wants b.spot) x) (Some (b, word (x ∷ []))) (begin_sign b x) (Some s) q.1) [
      | inl r ↦
          let is = same_Some (b, word (x ∷ [])) s r.1 in
          let fits : WordFits b (x ∷ []) =
          record {
            reached = reach_one b between x ∙ e ∙ ap Some (sym is);
            first = x;
            others = [];
            parts = refl;
            begins = r.0;
            letters = refl;
            going = begin_goes (wants b.spot) x r.0;
          } in
          subst FitsAt is fits
      | inr r ↦ elim (chosen (eqb x 91) (guard (takes_terminal b) (b, terminal [])) _ (Some s) r.1) [
        | inl t ↦
            let h = guard_some (takes_terminal b) (b, terminal []) s t.1 in
            let byte = eqb-true x 91 t.0 in
            let fits : TerminalFits b [] =
            record {
              reached = ap (λ (n : ℕ). reach b between (n ∷ [])) (sym byte) ∙ reach_one b between x ∙ e ∙ ap Some (sym h.1);
              takes = h.0;
              bytes = refl;
            } in
            subst FitsAt h.1 fits
        | inr t ↦ elim (chosen (eqb x 45) (begin_dash b) _ (Some s) t.1) [
          | inl u ↦ elim (chosen (takes_sign b sign.Minus) (behind (grow b (lexeme.Sign sign.Minus))) (guard (takes_sign b sign.Normal) (b, dash)) (Some s)
              u.1) [
                | inl v ↦ behind_fits (grow b (lexeme.Sign sign.Minus)) s v.1
                | inr v ↦ sign_fits b dash sign.Normal x s e (ap (λ (n : ℕ). n ∷ []) (sym (eqb-true x 45 u.0))) v.1 (λ f. f)
              ]
          | inr u ↦ elim (chosen (eqb x 126) (guard (takes_sign b sign.Closing) (b, tilde)) _ (Some s) u.1) [
            | inl v ↦ sign_fits b tilde sign.Closing x s e (ap (λ (n : ℕ). n ∷ []) (sym (eqb-true x 126 v.0))) v.1 (λ f. f)
            | inr v ↦ elim (chosen (eqb x 47) (guard (takes_sign b sign.Scope) (b, slash)) _ (Some s) v.1) [
              | inl w ↦ sign_fits b slash sign.Scope x s e (ap (λ (n : ℕ). n ∷ []) (sym (eqb-true x 47 w.0))) w.1 (λ f. f)
              | inr w ↦ elim (chosen (eqb x 62) (guard (takes_sign b sign.Weak) (b, greater)) (begin_single b x) (Some s) w.1) [
                | inl y ↦ sign_fits b greater sign.Weak x s e (ap (λ (n : ℕ). n ∷ []) (sym (eqb-true x 62 y.0))) y.1 (λ f. f)
                | inr y ↦
                    let one = bind_some (single x) (λ z. behind (grow b (lexeme.Sign z))) s y.1 in
                    behind_fits (grow b (lexeme.Sign one.0)) s one.2
              ]
            ]
          ]
        ]
      ]
    ]
  ]
]

word_goes_on : (b : Builder) (w : List ℕ) (x : ℕ) (s : Builder × Mode) → WordFits b w → is_word_byte x ≡ true → step b (word w) x ≡ Some s
    → guard (may_go_on (wants b.spot) (push w x)) (b, word (push w x)) ≡ Some s → FitsAt s
word_goes_on b w x s fits letter e g =
    let h = guard_some (may_go_on (wants b.spot) (push w x)) (b, word (push w x)) s g in
    let next : WordFits b (push w x) = record {
      reached = reach_push w x b b between (word w) fits.reached ∙ e ∙ ap Some (sym h.1);
      first = fits.first;
      others = push fits.others x;
      parts = ap (λ (v : List ℕ). push v x) fits.parts;
      begins = fits.begins;
      letters = list_all-append is_word_byte fits.others (x ∷ [])
          ∙ and_from (list_all is_word_byte fits.others) (is_word_byte x && true) fits.letters (and_from (is_word_byte x) true letter refl);
      going = h.0;
    } in
    subst FitsAt h.1 next

terminal_goes_on : (b : Builder) (t : List ℕ) (x : ℕ) (s : Builder × Mode) → TerminalFits b t → step b (terminal t) x ≡ Some s
    → guard (is_terminal_byte x) (b, terminal (push t x)) ≡ Some s → FitsAt s
terminal_goes_on b t x s fits e g =
    let h = guard_some (is_terminal_byte x) (b, terminal (push t x)) s g in
    let next : TerminalFits b (push t x) = record {
      reached = reach_push (91 ∷ t) x b b between (terminal t) fits.reached ∙ e ∙ ap Some (sym h.1);
      takes = fits.takes;
      bytes = list_all-append is_terminal_byte t (x ∷ [])
          ∙ and_from (list_all is_terminal_byte t) (is_terminal_byte x && true) fits.bytes (and_from (is_terminal_byte x) true h.0 refl);
    } in
    subst FitsAt h.1 next

sign_goes_on_to : (b : Builder) (m k : Mode) (y : Sign) (n x : ℕ) (s : Builder × Mode) → SignFits b m y → front k ≡ push (front m) n → step b m x ≡ Some s
    → guard (eqb x n) (b, k) ≡ Some s → (SignFits b k y → Fits b k) → FitsAt s
sign_goes_on_to b m k y n x s fits f e g to =
    let h = guard_some (eqb x n) (b, k) s g in
    let byte = eqb-true x n h.0 in
    let reached : reach b between (front k) ≡ Some (b, k) =
    ap (reach b between) (f ∙ ap (push (front m)) (sym byte)) ∙ reach_push (front m) x b b between m fits.reached ∙ e ∙ ap Some (sym h.1) in
    subst FitsAt h.1 (to (record { reached = reached; takes = fits.takes }))

either_behind : (t : Bool) (o : Option Builder) (s : Builder × Mode) → cond t (behind o) None ≡ Some s → FitsAt s
either_behind true o s e = behind_fits o s e
either_behind false o s e = absurd cc

comment_fits : (t : Bool) (b : Builder) → Fits b (cond t between comment)
comment_fits true b = tt
comment_fits false b = tt

pub step_fits : (b : Builder) (m : Mode) (x : ℕ) (s : Builder × Mode) → Fits b m → step b m x ≡ Some s → FitsAt s
step_fits b between x s fits e = begin_fits b x s e
step_fits b comment x s fits e = subst FitsAt (same_Some (b, cond (eqb x 10) between comment) s e) (comment_fits (eqb x 10) b)
step_fits b (word w) x s fits e = elim (chosen (is_word_byte x) (guard (may_go_on (wants b.spot) (push w x)) (b, word (push w x)))
    (finish b (word w) >>= λ d. begin d x) (Some s) e) [
      | inl p ↦ word_goes_on b w x s fits p.0 e p.1
      | inr p ↦ let f = bind_some (finish b (word w)) (λ d. begin d x) s p.1 in begin_fits f.0 x s f.2
    ]
step_fits b (terminal t) x s fits e = elim (chosen (eqb x 93) (if_terminal b t) (guard (is_terminal_byte x) (b, terminal (push t x))) (Some s) e) [
  | inl p ↦ either_behind (is_terminal t) (grow b (lexeme.Terminal t)) s p.1
  | inr p ↦ terminal_goes_on b t x s fits e p.1
]
step_fits b dash x s fits e = sign_goes_on_to b dash dashes sign.Normal 45 x s fits refl e e (λ f. f)
step_fits b dashes x s fits e = either_behind (eqb x 62) (grow b (lexeme.Sign sign.Normal)) s e
step_fits b tilde x s fits e = sign_goes_on_to b tilde tildes sign.Closing 126 x s fits refl e e (λ f. f)
step_fits b tildes x s fits e = either_behind (eqb x 62) (grow b (lexeme.Sign sign.Closing)) s e
step_fits b slash x s fits e = elim (chosen (eqb x 47) (behind (grow b (lexeme.Sign sign.Scope)))
    (cond (eqb x 60) (behind (grow b (lexeme.Sign sign.NoBack))) None) (Some s) e) [
      | inl p ↦ behind_fits (grow b (lexeme.Sign sign.Scope)) s p.1
      | inr p ↦ either_behind (eqb x 60) (grow b (lexeme.Sign sign.NoBack)) s p.1
    ]
step_fits b greater x s fits e = elim (chosen (eqb x 62) (behind (grow b (lexeme.Sign sign.Strong))) (finish b greater >>= λ d. begin d x) (Some s) e) [
  | inl p ↦ behind_fits (grow b (lexeme.Sign sign.Strong)) s p.1
  | inr p ↦ let f = bind_some (finish b greater) (λ d. begin d x) s p.1 in begin_fits f.0 x s f.2
]

pub reach_fits : (text : List ℕ) (b : Builder) (m : Mode) (s : Builder × Mode) → Fits b m → reach b m text ≡ Some s → FitsAt s
reach_fits [] b m s fits e = subst FitsAt (same_Some (b, m) s e) fits
reach_fits (x ∷ xs) b m s fits e =
    let t = bind_some (step b m x) (λ t. reach t.0 t.1 xs) s e in
    reach_fits xs t.0.0 t.0.1 s (step_fits b m x t.0 fits t.1) t.2

-- The symbol that a reading is in can become whole.

last_or : List ℕ → ℕ → ℕ
last_or [] d = d
last_or (x ∷ xs) d = last_or xs x

last_push : (w : List ℕ) (x d : ℕ) → last_or (push w x) d ≡ x
unfolding last_or
last_push [] x d = refl
last_push (y ∷ w) x d = last_push w x y

no_digit_end : (w t : List ℕ) → (eqb 48 (last_or t 0) ≡ false) → same_bytes (push w 48) t ≡ false
no_digit_end w t apart = elim (cases_Bool (same_bytes (push w 48) t)) [
  | inl e ↦
      let last : last_or t 0 ≡ 48 = ap (λ (v : List ℕ). last_or v 0) (sym (same_is (push w 48) t e)) ∙ last_push w 48 0 in
      absurd (both_ways (eqb 48 (last_or t 0)) apart (ap (eqb 48) last))
  | inr e ↦ e
]

no_keyword : (w : List ℕ) → is_among keywords (push w 48) ≡ false
unfolding last_or
no_keyword w = or_from (same_bytes (push w 48) (codes "feature")) _ (no_digit_end w (codes "feature") refl)
    (or_from (same_bytes (push w 48) (codes "word")) _ (no_digit_end w (codes "word") refl)
    (or_from (same_bytes (push w 48) (codes "position")) false (no_digit_end w (codes "position") refl) refl))

-- how the symbol becomes whole
pub record Completes (b : Builder) (front : List ℕ) : Type 0 where
  pub symbol : Lexeme
  pub more : List ℕ
  pub next : Spot
  pub bytes : lexeme_bytes symbol ≡ front ++ more
  pub whole : is_symbol symbol ≡ true
  pub stands : next_spot b.spot symbol ≡ Some next

completes_by : (b : Builder) (front : List ℕ) (x : Lexeme) (more : List ℕ) → lexeme_bytes x ≡ front ++ more → is_symbol x ≡ true
    → is_some (next_spot b.spot x) ≡ true → Completes b front
completes_by b front x more bytes whole stands =
    let next = there (next_spot b.spot x) stands in
    record { symbol = x; more = more; next = next.0; bytes = bytes; whole = whole; stands = next.1 } where
      there : (o : Option Spot) → is_some o ≡ true → (t : Spot) × (o ≡ Some t)
      there None h = absurd cc
      there (Some t) h = (t, refl)

name_ends : (w : List ℕ) → is_lower_word w ≡ true → is_identifier (push w 48) ≡ true
name_ends [] h = absurd cc
name_ends (x ∷ xs) h =
    let parts = and_parts (is_lower x) (list_all is_word_byte xs) h in
    let letters : list_all is_word_byte (push xs 48) ≡ true =
    list_all-append is_word_byte xs (48 ∷ []) ∙ and_from (list_all is_word_byte xs) true parts.1 refl in
    and_from (is_lower x && list_all is_word_byte (push xs 48)) _ (and_from (is_lower x) _ parts.0 letters)
    (not_from_false (is_among keywords (push (x ∷ xs) 48)) (no_keyword (x ∷ xs)))

name_completes : (b : Builder) (w : List ℕ) (fits : WordFits b w) → wants_names (wants b.spot) ≡ true → is_lower fits.first ≡ true → Completes b w
name_completes b w fits wanted lower =
    let low : is_lower_word w ≡ true = ap is_lower_word fits.parts ∙ and_from (is_lower fits.first) _ lower fits.letters in
    completes_by b w (lexeme.Identifier (push w 48)) (48 ∷ []) refl (name_ends w low) (name_next b.spot (push w 48) wanted)

variable_completes : (b : Builder) (w : List ℕ) (fits : WordFits b w) → wants_variables (wants b.spot) ≡ true → is_upper fits.first ≡ true → Completes b w
variable_completes b w fits wanted upper =
    let whole : is_variable w ≡ true = ap is_variable fits.parts ∙ and_from (is_upper fits.first) _ upper fits.letters in
    completes_by b w (lexeme.Variable w) [] (sym (append-nil w)) whole (variable_next b.spot w wanted)

word_completes : (k : Wanted) (b : Builder) (w : List ℕ) → wants b.spot ≡ k → WordFits b w → Completes b w
word_completes wanted.Nothing b w e fits =
    absurd (both_ways (may_begin wanted.Nothing fits.first) refl (ap (λ (k : Wanted). may_begin k fits.first) (sym e) ∙ fits.begins))
word_completes wanted.Item b w e fits = name_completes b w fits (ap wants_names e) (ap (λ (k : Wanted). may_begin k fits.first) (sym e) ∙ fits.begins)
word_completes wanted.Identifier b w e fits = name_completes b w fits (ap wants_names e) (ap (λ (k : Wanted). may_begin k fits.first) (sym e) ∙ fits.begins)
word_completes wanted.Value b w e fits = name_completes b w fits (ap wants_names e) (ap (λ (k : Wanted). may_begin k fits.first) (sym e) ∙ fits.begins)
word_completes wanted.Label b w e fits =
    let rest = front_among labels w (ap (λ (k : Wanted). may_go_on k w) (sym e) ∙ fits.going) in
    completes_by b w (lexeme.Label (w ++ rest.0)) rest.0 refl rest.1 (label_next b.spot (w ++ rest.0) e)
word_completes wanted.Kind b w e fits =
    let rest = front_among kinds w (ap (λ (k : Wanted). may_go_on k w) (sym e) ∙ fits.going) in
    completes_by b w (lexeme.Kind (w ++ rest.0)) rest.0 refl rest.1 (kind_next b.spot (w ++ rest.0) e)
word_completes wanted.Variable b w e fits =
    variable_completes b w fits (ap wants_variables e) (ap (λ (k : Wanted). may_begin k fits.first) (sym e) ∙ fits.begins)
word_completes wanted.Term b w e fits = elim (or_cases (is_upper fits.first) (is_lower fits.first)
    (ap (λ (k : Wanted). may_begin k fits.first) (sym e) ∙ fits.begins)) [
      | inl u ↦ variable_completes b w fits (ap wants_variables e) u
      | inr l ↦ name_completes b w fits (ap wants_names e) l
    ]

ends_by_letter : (t : List ℕ) → list_all is_terminal_byte t ≡ true → is_terminal (push t 120) ≡ true
ends_by_letter [] h = refl
ends_by_letter (x ∷ []) h = let parts = and_parts (is_terminal_byte x) true h in rw parts.0 refl
ends_by_letter (x ∷ y ∷ t) h =
    let bytes : list_all is_terminal_byte (push (x ∷ y ∷ t) 120) ≡ true =
    list_all-append is_terminal_byte (x ∷ y ∷ t) (120 ∷ []) ∙ and_from (list_all is_terminal_byte (x ∷ y ∷ t)) true h refl in
    and_from (list_all is_terminal_byte (push (x ∷ y ∷ t) 120)) (ends_well (push (y ∷ t) 120)) bytes (well (y ∷ t)) where
      well : (t : List ℕ) → ends_well (push t 120) ≡ true
      well [] = refl
      well (x ∷ []) = refl
      well (x ∷ y ∷ t) = well (y ∷ t)

terminal_completes : (b : Builder) (t : List ℕ) → TerminalFits b t → Completes b (91 ∷ t)
terminal_completes b t fits = completes_by b (91 ∷ t) (lexeme.Terminal (push t 120)) (120 ∷ 93 ∷ [])
    (ap (λ (v : List ℕ). 91 ∷ v) (append_assoc t (120 ∷ []) (93 ∷ []))) (ends_by_letter t fits.bytes) fits.takes

-- a reading that is in a symbol goes on by what completes it
behind_symbol : (b : Builder) (m : Mode) → reach b between (front m) ≡ Some (b, m) → Completes b (front m)
    → (more : List ℕ) × (d : Builder) × (final b m more ≡ Some d) × (d.spot ≡ spot.Items)
behind_symbol b m reached c =
    let rest = spaced (ending c.next) in
    let begins : Begins false (front m ++ (c.more ++ rest)) c.symbol rest = record {
      gap = [];
      between = refl;
      symbol = c.whole;
      longest = spaced_stops c.symbol (ending c.next);
      parts = sym (append_assoc (front m) c.more rest) ∙ ap (λ (v : List ℕ). v ++ rest) (sym c.bytes);
    } in
    let spells : SpellsFrom false (front m ++ (c.more ++ rest)) (c.symbol ∷ ending c.next) =
    (rest, begins, spaced_spells (ending c.next) (ending_symbols c.next)) in
    let leads : runs b.spot (c.symbol ∷ ending c.next) ≡ Some spot.Items =
    ap (λ (o : Option Spot). o >>= λ t. runs t (ending c.next)) c.stands ∙ ending_leads c.next in
    let end = spelled_final (c.symbol ∷ ending c.next) (front m ++ (c.more ++ rest)) false b spot.Items spells leads in
    let here : final b between (front m ++ (c.more ++ rest)) ≡ final b m (c.more ++ rest) =
    reach_final (front m) (c.more ++ rest) b between ∙ ap (λ (o : Option (Builder × Mode)). o >>= λ s. final s.0 s.1 (c.more ++ rest)) reached in
    (c.more ++ rest, end.0, sym here ∙ end.1, end.2)

sign_behind : (b : Builder) (m : Mode) (y : Sign) (more : List ℕ) → lexeme_bytes (lexeme.Sign y) ≡ front m ++ more → SignFits b m y
    → (more : List ℕ) × (d : Builder) × (final b m more ≡ Some d) × (d.spot ≡ spot.Items)
sign_behind b m y more bytes fits = behind_symbol b m fits.reached (completes_by b (front m) (lexeme.Sign y) more bytes refl fits.takes)

-- every reading goes on to between items
pub continuation : (b : Builder) (m : Mode) → Fits b m → (more : List ℕ) × (d : Builder) × (final b m more ≡ Some d) × (d.spot ≡ spot.Items)
continuation b between fits =
    let end = spelled_final (ending b.spot) (spaced (ending b.spot)) false b spot.Items (spaced_spells (ending b.spot) (ending_symbols b.spot))
    (ending_leads b.spot) in
    (spaced (ending b.spot), end.0, end.1, end.2)
continuation b comment fits =
    let end = spelled_final (ending b.spot) (spaced (ending b.spot)) false b spot.Items (spaced_spells (ending b.spot) (ending_symbols b.spot))
    (ending_leads b.spot) in
    (10 ∷ spaced (ending b.spot), end.0, end.1, end.2)
continuation b (word w) fits = behind_symbol b (word w) fits.reached (word_completes (wants b.spot) b w refl fits)
continuation b (terminal t) fits = behind_symbol b (terminal t) fits.reached (terminal_completes b t fits)
continuation b dash fits = sign_behind b dash sign.Normal (45 ∷ 62 ∷ []) refl fits
continuation b dashes fits = sign_behind b dashes sign.Normal (62 ∷ []) refl fits
continuation b tilde fits = sign_behind b tilde sign.Closing (126 ∷ 62 ∷ []) refl fits
continuation b tildes fits = sign_behind b tildes sign.Closing (62 ∷ []) refl fits
continuation b slash fits = sign_behind b slash sign.Scope (47 ∷ []) refl fits
continuation b greater fits = sign_behind b greater sign.Weak [] refl fits
