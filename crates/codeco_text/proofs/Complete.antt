-- What the text spells is taken by a reading.
use Rattle.std.proofs.Common.{◌≡◌, ℕ, Bool, true, false, cond, not, eqb, ◌&&◌, ◌||◌, ◌⊎◌, List, [], ◌∷◌, ◌++◌, Option, Some, None, refl, sym, ap, subst, ◌∙◌, append_assoc, inl, inr}
use Rattle.std.specs.Prelude.{is_some, codes}
use Rattle.std.specs.List.{list_all}
use Rattle.std.proofs.lemmas.List.{append-nil}
use Rattle.std.proofs.lemmas.Bool.{eqb-true, cases_Bool, both_ways, and_parts, or_parts, not-true, cond-true, cond-false}
use Rattle.codeco_text.specs.declared.symbols.Sign.{Sign}
use Rattle.codeco_text.specs.declared.symbols.Sign.TheVariants as sign
use Rattle.codeco_text.specs.declared.symbols.Lexeme.{Lexeme}
use Rattle.codeco_text.specs.declared.symbols.Lexeme.TheVariants as lexeme
use Rattle.codeco_text.specs.declared.spot.Spot.{Spot}
use Rattle.codeco_text.specs.declared.spot.Spot.TheVariants as spot
use Rattle.codeco_text.specs.declared.spot.Wanted.{Wanted}
use Rattle.codeco_text.specs.declared.spot.Wanted.TheVariants as wanted
use Rattle.codeco_text.specs.declared.builder.Builder.{Builder}
use Rattle.codeco_text.specs.Names.{is_space, is_lower, is_upper, is_word_byte, is_terminal, is_terminal_byte, is_among, same_bytes, ends_well}
use Rattle.codeco_text.specs.declared.spot.Role.TheVariants as role
use Rattle.codeco_text.specs.declared.spot.Part.TheVariants as part
use Rattle.codeco_text.specs.Notation.{labels, kinds, lexeme_bytes, is_symbol, goes_on, has_front, is_gap, sign_bytes, SpellsFrom, begins_by}
use Rattle.codeco_text.specs.Reading.{◌>>=◌, wants, as_word, may_begin, may_go_on, is_front_among, next_spot, identifier}
use Rattle.codeco_text.specs.Building.{push, grow}
use Rattle.codeco_text.proofs.SoFar.{so_far}
use Rattle.codeco_text.proofs.Growth.{grow_adds}
use Rattle.codeco_text.specs.Scanning.{Mode, between, comment, word, terminal, dash, dashes, tilde, tildes, slash, greater, takes_sign, takes_terminal, behind, begin, begin_sign, finish, step, if_terminal}
use Rattle.codeco_text.proofs.Trees.{runs}
use Rattle.codeco_text.proofs.Soundness.{bind_some, spot_grow, grow_spot}
use Rattle.codeco_text.proofs.Spelled.{final}
use Rattle.codeco_text.proofs.Standing.{wants_names, name_wanted, variable_wanted, label_wanted, kind_wanted, strong_weak, absent_scope, normal_not_minus}
use Rattle.codeco_text.proofs.Spelling.{IsReadable, goes_along, as_name, as_variable, identifier_lower, keyword_lower, name_readable, variable_readable, label_readable, kind_readable, letter_no_space, letter_no_comment}

abbrev pub gap_mode : Bool → Mode
gap_mode true = comment
gap_mode false = between

-- Gaps

line_mode : (t : Bool) → cond t between comment ≡ gap_mode (not t)
line_mode true = refl
line_mode false = refl

begin_space : (b : Builder) (x : ℕ) → is_space x ≡ true → begin b x ≡ Some (b, between)
begin_space b x h = cond-true (is_space x) (Some (b, between)) _ h

begin_comment : (b : Builder) (x : ℕ) → eqb x 37 ≡ true → begin b x ≡ Some (b, comment)
begin_comment b x h = subst (λ (n : ℕ). begin b n ≡ Some (b, comment)) (sym (eqb-true x 37 h)) refl

final_step : (b : Builder) (m : Mode) (x : ℕ) (rest : List ℕ) (s : Builder × Mode) → step b m x ≡ Some s → final b m (x ∷ rest) ≡ final s.0 s.1 rest
final_step b m x rest s e = ap (λ (o : Option (Builder × Mode)). o >>= λ s. final s.0 s.1 rest) e

gap_byte : (b : Builder) (cm : Bool) (last : Bool) (x : ℕ) (gap rest : List ℕ) → is_gap last cm (x ∷ gap) ≡ true
    → (next : Bool) × (is_gap last next gap ≡ true) × (final b (gap_mode cm) (x ∷ rest) ≡ final b (gap_mode next) rest)
gap_byte b true last x gap rest h = (not (eqb x 10), h, ap (λ (m : Mode). final b m rest) (line_mode (eqb x 10)))
gap_byte b false last x gap rest h = elim (cases_Bool (eqb x 37)) [
  | inl e ↦ (
    true,
    sym (cond-true (eqb x 37) (is_gap last true gap) (is_space x && is_gap last false gap) e) ∙ h,
    final_step b between x rest (b, comment) (begin_comment b x e),
  )
  | inr e ↦
      let both = and_parts (is_space x) (is_gap last false gap)
      (sym (cond-false (eqb x 37) (is_gap last true gap) (is_space x && is_gap last false gap) e) ∙ h) in
      (false, both.1, final_step b between x rest (b, between) (begin_space b x both.0))
]

gap_final : (gap : List ℕ) (cm : Bool) (rest : List ℕ) (b : Builder) → is_gap false cm gap ≡ true → final b (gap_mode cm) (gap ++ rest) ≡ final b between rest
gap_final [] true rest b h = absurd cc
gap_final [] false rest b h = refl
gap_final (x ∷ gap) cm rest b h =
    let next = gap_byte b cm false x gap (gap ++ rest) h in
    next.2 ∙ gap_final gap next.0 rest b next.1

finish_gap : (b : Builder) (cm : Bool) → finish b (gap_mode cm) ≡ Some b
finish_gap b true = refl
finish_gap b false = refl

gap_ends : (gap : List ℕ) (cm : Bool) (b : Builder) → is_gap true cm gap ≡ true → final b (gap_mode cm) gap ≡ Some b
gap_ends [] cm b h = finish_gap b cm
gap_ends (x ∷ gap) cm b h =
    let next = gap_byte b cm true x gap gap h in
    next.2 ∙ gap_ends gap next.0 b next.1

-- Words

along_final : (b : Builder) (u v rest : List ℕ) → goes_along (wants b.spot) u v ≡ true → final b (word u) (v ++ rest) ≡ final b (word (u ++ v)) rest
along_final b u [] rest h = ap (λ (w : List ℕ). final b (word w) rest) (sym (append-nil u))
along_final b u (x ∷ v) rest h =
    let first = and_parts (is_word_byte x) _ h in
    let then = and_parts (may_go_on (wants b.spot) (push u x)) _ first.1 in
    let step_is : step b (word u) x ≡ Some (b, word (push u x)) =
    cond-true (is_word_byte x) _ _ first.0 ∙ cond-true (may_go_on (wants b.spot) (push u x)) (Some (b, word (push u x))) None then.0 in
    final_step b (word u) x (v ++ rest) (b, word (push u x)) step_is
    ∙ along_final b (push u x) v rest then.1
    ∙ ap (λ (w : List ℕ). final b (word w) rest) (append_assoc u (x ∷ []) v)

begin_letter : (b : Builder) (x : ℕ) → is_word_byte x ≡ true → may_begin (wants b.spot) x ≡ true → begin b x ≡ Some (b, word (x ∷ []))
begin_letter b x h k =
    cond-false (is_space x) (Some (b, between)) _ (letter_no_space x h)
    ∙ cond-false (eqb x 37) (Some (b, comment)) _ (letter_no_comment x h)
    ∙ cond-true (may_begin (wants b.spot) x) (Some (b, word (x ∷ []))) (begin_sign b x) k

readable_final : (b : Builder) (w rest : List ℕ) → IsReadable (wants b.spot) w → final b between (w ++ rest) ≡ final b (word w) rest
readable_final b w rest r =
    ap (λ (v : List ℕ). final b between (v ++ rest)) r.parts
    ∙ final_step b between r.first (r.others ++ rest) (b, word (r.first ∷ [])) (begin_letter b r.first r.letter r.begins)
    ∙ along_final b (r.first ∷ []) r.others rest r.along
    ∙ ap (λ (v : List ℕ). final b (word v) rest) (sym r.parts)

-- the word is whole
word_whole : (b d : Builder) (w rest : List ℕ) → finish b (word w) ≡ Some d → begins_by is_word_byte rest ≡ false → final b (word w) rest ≡ final d between rest
word_whole b d w [] e h = e
word_whole b d w (x ∷ rest) e h =
    let step_is : step b (word w) x ≡ begin d x = cond-false (is_word_byte x) _ _ h ∙ ap (λ (o : Option Builder). o >>= λ c. begin c x) e in
    ap (λ (o : Option (Builder × Mode)). o >>= λ s. final s.0 s.1 rest) step_is

word_final : (b d : Builder) (x : Lexeme) (w rest : List ℕ) → IsReadable (wants b.spot) w → as_word (wants b.spot) w ≡ Some x → grow b x ≡ Some d
    → begins_by is_word_byte rest ≡ false → final b between (w ++ rest) ≡ final d between rest
word_final b d x w rest r e g h =
    let done : finish b (word w) ≡ Some d = ap (λ (o : Option Lexeme). o >>= λ y. grow b y) e ∙ g in
    readable_final b w rest r ∙ word_whole b d w rest done h

guarded : {A : Type 0} (t : Bool) (x y : A) → cond t (Some x) None ≡ Some y → t ≡ true
guarded true x y e = refl
guarded false x y e = absurd cc

keyword_wanted : (s : Spot) (w : List ℕ) (t : Spot) → next_spot s (lexeme.Keyword w) ≡ Some t
    → (wants_names (wants s) ≡ true) × (as_word (wants s) w ≡ Some (lexeme.Keyword w))
keyword_wanted spot.Items w t e = let h = guarded (same_bytes w (codes "feature")) spot.FeatureName t e in
    (refl, cond-true (same_bytes w (codes "feature")) (Some (lexeme.Keyword w)) (identifier w) h)
keyword_wanted spot.FeatureValue w t e = let h = guarded (same_bytes w (codes "word") || same_bytes w (codes "position")) spot.FeatureEnd t e in
    (refl, cond-true (same_bytes w (codes "word") || same_bytes w (codes "position")) (Some (lexeme.Keyword w)) (identifier w) h)
keyword_wanted (spot.Category part.Name role.Head) w t e = absurd cc
keyword_wanted (spot.Category part.Named role.Head) w t e = absurd cc
keyword_wanted (spot.Category part.Feature role.Head) w t e = absurd cc
keyword_wanted (spot.Category part.Colon role.Head) w t e = absurd cc
keyword_wanted (spot.Category part.Term role.Head) w t e = absurd cc
keyword_wanted (spot.Category part.Taken role.Head) w t e = absurd cc
keyword_wanted (spot.Category part.Next role.Head) w t e = absurd cc
keyword_wanted (spot.Category part.Whole role.Head) w t e = absurd cc
keyword_wanted s w t e = absurd cc

-- a byte that begins no word

no_word : (k : Wanted) (n : ℕ) → is_lower n ≡ false → is_upper n ≡ false → is_front_among labels (n ∷ []) ≡ false → is_front_among kinds (n ∷ []) ≡ false
    → may_begin k n ≡ false
no_word wanted.Nothing n l u a b = refl
no_word wanted.Item n l u a b = l
no_word wanted.Identifier n l u a b = l
no_word wanted.Value n l u a b = l
no_word wanted.Label n l u a b = a
no_word wanted.Kind n l u a b = b
no_word wanted.Variable n l u a b = u
no_word wanted.Term n l u a b = rw (u, l) refl

sign_begins : (b : Builder) (n : ℕ) → is_space n ≡ false → eqb n 37 ≡ false → is_lower n ≡ false → is_upper n ≡ false → is_front_among labels (n ∷ []) ≡ false
    → is_front_among kinds (n ∷ []) ≡ false → begin b n ≡ begin_sign b n
sign_begins b n s c l u labels kinds =
    cond-false (is_space n) (Some (b, between)) _ s
    ∙ cond-false (eqb n 37) (Some (b, comment)) _ c
    ∙ cond-false (may_begin (wants b.spot) n) (Some (b, word (n ∷ []))) (begin_sign b n) (no_word (wants b.spot) n l u labels kinds)

-- a sign of one byte
single_final : (b d : Builder) (x : Sign) (n : ℕ) (rest : List ℕ) → begin b n ≡ behind (grow b (lexeme.Sign x)) → grow b (lexeme.Sign x) ≡ Some d
    → final b between (n ∷ rest) ≡ final d between rest
single_final b d x n rest e g = final_step b between n rest (d, between) (e ∙ ap behind g)

takes_it : (b d : Builder) (x : Lexeme) → grow b x ≡ Some d → is_some (next_spot b.spot x) ≡ true
takes_it b d x g = ap is_some (grow_spot b x d g)

minus_final : (b d : Builder) (rest : List ℕ) → grow b (lexeme.Sign sign.Minus) ≡ Some d → final b between (45 ∷ rest) ≡ final d between rest
minus_final b d rest g = single_final b d sign.Minus 45 rest
    (sign_begins b 45 refl refl refl refl refl refl
    ∙ cond-true (takes_sign b sign.Minus) (behind (grow b (lexeme.Sign sign.Minus))) _ (takes_it b d (lexeme.Sign sign.Minus) g)) g

normal_final : (b d : Builder) (rest : List ℕ) → grow b (lexeme.Sign sign.Normal) ≡ Some d → final b between (45 ∷ 45 ∷ 62 ∷ rest) ≡ final d between rest
normal_final b d rest g =
    let stands = grow_spot b (lexeme.Sign sign.Normal) d g in
    let first : begin b 45 ≡ Some (b, dash) =
    sign_begins b 45 refl refl refl refl refl refl
    ∙ cond-false (takes_sign b sign.Minus) (behind (grow b (lexeme.Sign sign.Minus))) _ (normal_not_minus b.spot d.spot stands)
    ∙ cond-true (takes_sign b sign.Normal) (Some (b, dash)) None (takes_it b d (lexeme.Sign sign.Normal) g) in
    final_step b between 45 (45 ∷ 62 ∷ rest) (b, dash) first ∙ final_step b dashes 62 rest (d, between) (ap behind g)

closing_final : (b d : Builder) (rest : List ℕ) → grow b (lexeme.Sign sign.Closing) ≡ Some d → final b between (126 ∷ 126 ∷ 62 ∷ rest) ≡ final d between rest
closing_final b d rest g =
    let first : begin b 126 ≡ Some (b, tilde) =
    sign_begins b 126 refl refl refl refl refl refl
    ∙ cond-true (takes_sign b sign.Closing) (Some (b, tilde)) None (takes_it b d (lexeme.Sign sign.Closing) g) in
    final_step b between 126 (126 ∷ 62 ∷ rest) (b, tilde) first ∙ final_step b tildes 62 rest (d, between) (ap behind g)

slash_begins : (b : Builder) → takes_sign b sign.Scope ≡ true → begin b 47 ≡ Some (b, slash)
slash_begins b h = sign_begins b 47 refl refl refl refl refl refl ∙ cond-true (takes_sign b sign.Scope) (Some (b, slash)) None h

scope_final : (b d : Builder) (rest : List ℕ) → grow b (lexeme.Sign sign.Scope) ≡ Some d → final b between (47 ∷ 47 ∷ rest) ≡ final d between rest
scope_final b d rest g = final_step b between 47 (47 ∷ rest) (b, slash) (slash_begins b (takes_it b d (lexeme.Sign sign.Scope) g))
    ∙ final_step b slash 47 rest (d, between) (ap behind g)

absent_final : (b d : Builder) (rest : List ℕ) → grow b (lexeme.Sign sign.NoBack) ≡ Some d → final b between (47 ∷ 60 ∷ rest) ≡ final d between rest
absent_final b d rest g = final_step b between 47 (60 ∷ rest) (b, slash)
    (slash_begins b (absent_scope b.spot d.spot (grow_spot b (lexeme.Sign sign.NoBack) d g))) ∙ final_step b slash 60 rest (d, between) (ap behind g)

greater_begins : (b : Builder) → takes_sign b sign.Weak ≡ true → begin b 62 ≡ Some (b, greater)
greater_begins b h = sign_begins b 62 refl refl refl refl refl refl ∙ cond-true (takes_sign b sign.Weak) (Some (b, greater)) None h

strong_final : (b d : Builder) (rest : List ℕ) → grow b (lexeme.Sign sign.Strong) ≡ Some d → final b between (62 ∷ 62 ∷ rest) ≡ final d between rest
strong_final b d rest g = final_step b between 62 (62 ∷ rest) (b, greater)
    (greater_begins b (strong_weak b.spot d.spot (grow_spot b (lexeme.Sign sign.Strong) d g))) ∙ final_step b greater 62 rest (d, between) (ap behind g)

weak_whole : (b d : Builder) (rest : List ℕ) → grow b (lexeme.Sign sign.Weak) ≡ Some d → has_front (codes ">") rest ≡ false
    → final b greater rest ≡ final d between rest
weak_whole b d [] g h = g
weak_whole b d (x ∷ rest) g h =
    let apart : eqb x 62 ≡ false = elim (cases_Bool (eqb x 62)) [
      | inl e ↦ absurd (both_ways (has_front (codes ">") (x ∷ rest)) h
          (subst (λ (n : ℕ). has_front (codes ">") (n ∷ rest) ≡ true) (sym (eqb-true x 62 e)) refl))
      | inr e ↦ e
    ] in
    let step_is : step b greater x ≡ begin d x = cond-false (eqb x 62) _ _ apart ∙ ap (λ (o : Option Builder). o >>= λ c. begin c x) g in
    ap (λ (o : Option (Builder × Mode)). o >>= λ s. final s.0 s.1 rest) step_is

weak_final : (b d : Builder) (rest : List ℕ) → grow b (lexeme.Sign sign.Weak) ≡ Some d → has_front (codes ">") rest ≡ false
    → final b between (62 ∷ rest) ≡ final d between rest
weak_final b d rest g h = final_step b between 62 rest (b, greater) (greater_begins b (takes_it b d (lexeme.Sign sign.Weak) g)) ∙ weak_whole b d rest g h

sign_final : (b d : Builder) (x : Sign) (rest : List ℕ) → grow b (lexeme.Sign x) ≡ Some d → goes_on (lexeme.Sign x) rest ≡ false
    → final b between (sign_bytes x ++ rest) ≡ final d between rest
sign_final b d sign.Colon rest g h = single_final b d sign.Colon 58 rest (sign_begins b 58 refl refl refl refl refl refl) g
sign_final b d sign.Comma rest g h = single_final b d sign.Comma 44 rest (sign_begins b 44 refl refl refl refl refl refl) g
sign_final b d sign.Stop rest g h = single_final b d sign.Stop 46 rest (sign_begins b 46 refl refl refl refl refl refl) g
sign_final b d sign.OpenBrace rest g h = single_final b d sign.OpenBrace 123 rest (sign_begins b 123 refl refl refl refl refl refl) g
sign_final b d sign.CloseBrace rest g h = single_final b d sign.CloseBrace 125 rest (sign_begins b 125 refl refl refl refl refl refl) g
sign_final b d sign.OpenParen rest g h = single_final b d sign.OpenParen 40 rest (sign_begins b 40 refl refl refl refl refl refl) g
sign_final b d sign.CloseParen rest g h = single_final b d sign.CloseParen 41 rest (sign_begins b 41 refl refl refl refl refl refl) g
sign_final b d sign.Normal rest g h = normal_final b d rest g
sign_final b d sign.Closing rest g h = closing_final b d rest g
sign_final b d sign.Dollar rest g h = single_final b d sign.Dollar 36 rest (sign_begins b 36 refl refl refl refl refl refl) g
sign_final b d sign.Hash rest g h = single_final b d sign.Hash 35 rest (sign_begins b 35 refl refl refl refl refl refl) g
sign_final b d sign.Scope rest g h = scope_final b d rest g
sign_final b d sign.Weak rest g h = weak_final b d rest g h
sign_final b d sign.Strong rest g h = strong_final b d rest g
sign_final b d sign.Back rest g h = single_final b d sign.Back 60 rest (sign_begins b 60 refl refl refl refl refl refl) g
sign_final b d sign.NoBack rest g h = absent_final b d rest g
sign_final b d sign.Plus rest g h = single_final b d sign.Plus 43 rest (sign_begins b 43 refl refl refl refl refl refl) g
sign_final b d sign.Minus rest g h = minus_final b d rest g
sign_final b d sign.Question rest g h = single_final b d sign.Question 63 rest (sign_begins b 63 refl refl refl refl refl refl) g

-- Terminals

no_bracket : (x : ℕ) → is_terminal_byte x ≡ true → eqb x 93 ≡ false
no_bracket x h = (or_parts (is_space x || eqb x 91) (eqb x 93) (not-true ((is_space x || eqb x 91) || eqb x 93) h)).1

terminal_bytes : (b : Builder) (u v rest : List ℕ) → list_all is_terminal_byte v ≡ true → final b (terminal u) (v ++ rest) ≡ final b (terminal (u ++ v)) rest
terminal_bytes b u [] rest h = ap (λ (w : List ℕ). final b (terminal w) rest) (sym (append-nil u))
terminal_bytes b u (x ∷ v) rest h =
    let parts = and_parts (is_terminal_byte x) (list_all is_terminal_byte v) h in
    let step_is : step b (terminal u) x ≡ Some (b, terminal (push u x)) =
    cond-false (eqb x 93) (if_terminal b u) _ (no_bracket x parts.0) ∙ cond-true (is_terminal_byte x) (Some (b, terminal (push u x))) None parts.0 in
    final_step b (terminal u) x (v ++ rest) (b, terminal (push u x)) step_is
    ∙ terminal_bytes b (push u x) v rest parts.1
    ∙ ap (λ (w : List ℕ). final b (terminal w) rest) (append_assoc u (x ∷ []) v)

pub terminal_all : (t : List ℕ) → is_terminal t ≡ true → list_all is_terminal_byte t ≡ true
terminal_all [] h = absurd cc
terminal_all (x ∷ []) h = rw h refl
terminal_all (x ∷ y ∷ t) h = (and_parts (is_terminal_byte x && list_all is_terminal_byte (y ∷ t)) (ends_well (y ∷ t)) h).0

terminal_begins : (b : Builder) → takes_terminal b ≡ true → begin b 91 ≡ Some (b, terminal [])
terminal_begins b h = sign_begins b 91 refl refl refl refl refl refl ∙ cond-true (takes_terminal b) (Some (b, terminal [])) None h

terminal_final : (b d : Builder) (t rest : List ℕ) → grow b (lexeme.Terminal t) ≡ Some d → is_terminal t ≡ true
    → final b between (lexeme_bytes (lexeme.Terminal t) ++ rest) ≡ final d between rest
terminal_final b d t rest g h =
    let shape : t ++ (93 ∷ []) ++ rest ≡ t ++ (93 ∷ rest) = append_assoc t (93 ∷ []) rest in
    let last : step b (terminal t) 93 ≡ Some (d, between) = cond-true (is_terminal t) (behind (grow b (lexeme.Terminal t))) None h ∙ ap behind g in
    ap (λ (w : List ℕ). final b between (91 ∷ w)) shape
    ∙ final_step b between 91 (t ++ (93 ∷ rest)) (b, terminal []) (terminal_begins b (takes_it b d (lexeme.Terminal t) g))
    ∙ terminal_bytes b [] t (93 ∷ rest) (terminal_all t h)
    ∙ final_step b (terminal t) 93 rest (d, between) last

-- Symbols

symbol_final : (b d : Builder) (x : Lexeme) (rest : List ℕ) → grow b x ≡ Some d → is_symbol x ≡ true → goes_on x rest ≡ false
    → final b between (lexeme_bytes x ++ rest) ≡ final d between rest
symbol_final b d (lexeme.Identifier w) rest g s h =
    let wanted = name_wanted b.spot w d.spot (grow_spot b (lexeme.Identifier w) d g) in
    word_final b d (lexeme.Identifier w) w rest (name_readable (wants b.spot) w wanted (identifier_lower w s)) (as_name (wants b.spot) w wanted s) g h
symbol_final b d (lexeme.Variable w) rest g s h =
    let wanted = variable_wanted b.spot w d.spot (grow_spot b (lexeme.Variable w) d g) in
    word_final b d (lexeme.Variable w) w rest (variable_readable (wants b.spot) w wanted s) (as_variable (wants b.spot) w wanted s) g h
symbol_final b d (lexeme.Keyword w) rest g s h =
    let wanted = keyword_wanted b.spot w d.spot (grow_spot b (lexeme.Keyword w) d g) in
    word_final b d (lexeme.Keyword w) w rest (name_readable (wants b.spot) w wanted.0 (keyword_lower w s)) wanted.1 g h
symbol_final b d (lexeme.Label w) rest g s h =
    let is = label_wanted b.spot w d.spot (grow_spot b (lexeme.Label w) d g) in
    word_final b d (lexeme.Label w) w rest (subst (λ (k : Wanted). IsReadable k w) (sym is) (label_readable w s))
    (ap (λ (k : Wanted). as_word k w) is ∙ cond-true (is_among labels w) (Some (lexeme.Label w)) None s) g h
symbol_final b d (lexeme.Kind w) rest g s h =
    let is = kind_wanted b.spot w d.spot (grow_spot b (lexeme.Kind w) d g) in
    word_final b d (lexeme.Kind w) w rest (subst (λ (k : Wanted). IsReadable k w) (sym is) (kind_readable w s))
    (ap (λ (k : Wanted). as_word k w) is ∙ cond-true (is_among kinds w) (Some (lexeme.Kind w)) None s) g h
symbol_final b d (lexeme.Terminal t) rest g s h = terminal_final b d t rest g s
symbol_final b d (lexeme.Sign x) rest g s h = sign_final b d x rest g h

-- a text that spells symbols which may stand here is taken to its end
pub spelled_final : (xs : List Lexeme) (text : List ℕ) (cm : Bool) (b : Builder) (t : Spot) → SpellsFrom cm text xs → runs b.spot xs ≡ Some t
    → (d : Builder) × (final b (gap_mode cm) text ≡ Some d) × (d.spot ≡ t) × (so_far d ≡ so_far b ++ xs)
spelled_final [] text cm b t spells e = (b, gap_ends text cm b spells, some_spot b.spot t e, sym (append-nil (so_far b))) where
  some_spot : (s t : Spot) → Some s ≡ Some t → s ≡ t
  some_spot s t e = cc
spelled_final (x ∷ xs) text cm b t spells e =
    let begins = spells.1 in
    let next = bind_some (next_spot b.spot x) (λ s. runs s xs) t e in
    let grown = spot_grow b x next.0 next.1 in
    let others = spelled_final xs spells.0 false grown.0 t spells.2 (ap (λ (s : Spot). runs s xs) grown.2 ∙ next.2) in (
      others.0,
      ap (λ (v : List ℕ). final b (gap_mode cm) v) begins.parts
          ∙ gap_final begins.gap cm (lexeme_bytes x ++ spells.0) b begins.between
          ∙ symbol_final b grown.0 x spells.0 grown.1 begins.symbol begins.longest
          ∙ others.1,
      others.2,
      others.3 ∙ ap (λ (v : List Lexeme). v ++ xs) (grow_adds b x grown.0 grown.1) ∙ append_assoc (so_far b) (x ∷ []) xs,
    )
