-- A reading that comes to its end has read what the text spells.
use Rattle.std.proofs.Common.{◌≡◌, ℕ, Bool, true, false, cond, not, eqb, ◌&&◌, ◌||◌, ◌⊎◌, List, [], ◌∷◌, ◌++◌, Option, Some, None, refl, sym, ap, subst, ◌∙◌, append_assoc, inl, inr}
use Rattle.std.specs.Prelude.{codes}
use Rattle.std.proofs.lemmas.List.{append-nil}
use Rattle.std.proofs.lemmas.Bool.{eqb-true, eq-eqb, cases_Bool, both_ways, and_parts}
use Rattle.std.proofs.lemmas.Option.{same_Some}
use Rattle.codeco_text.specs.declared.symbols.Sign.{Sign}
use Rattle.codeco_text.specs.declared.symbols.Sign.TheVariants as sign
use Rattle.codeco_text.specs.declared.symbols.Lexeme.{Lexeme}
use Rattle.codeco_text.specs.declared.symbols.Lexeme.TheVariants as lexeme
use Rattle.codeco_text.specs.declared.spot.Role.TheVariants as role
use Rattle.codeco_text.specs.declared.spot.Part.TheVariants as part
use Rattle.codeco_text.specs.declared.spot.Spot.{Spot}
use Rattle.codeco_text.specs.declared.spot.Spot.TheVariants as spot
use Rattle.codeco_text.specs.declared.builder.Builder.{Builder}
use Rattle.codeco_text.specs.Names.{is_space, is_word_byte, is_terminal, is_terminal_byte}
use Rattle.codeco_text.specs.Notation.{lexeme_bytes, is_symbol, goes_on, has_front, sign_bytes, SpellsFrom}
use Rattle.codeco_text.specs.Reading.{◌>>=◌, wants, as_word, may_begin, may_go_on, next_spot}
use Rattle.codeco_text.specs.Building.{push, grow}
use Rattle.codeco_text.proofs.SoFar.{so_far}
use Rattle.codeco_text.specs.Scanning.{Mode, between, comment, word, terminal, dash, dashes, tilde, tildes, slash, greater, takes_sign, takes_terminal, guard, behind, single, begin, begin_sign, begin_dash, begin_single, finish, step, if_terminal}
use Rattle.codeco_text.proofs.Growth.{grow_adds}
use Rattle.codeco_text.proofs.Trees.{runs}
use Rattle.codeco_text.proofs.Gaps.{Continues, spells_space, spells_comment, spells_in_comment, continues_more, continues_whole, continues_before, begins_here}
use Rattle.codeco_text.proofs.Soundness.{bind_some, guard_some, behind_some, chosen, grow_spot, word_some, word_is, word_stops, ends_all}

-- the first bytes of the symbol that a reading is in
abbrev pub front : Mode → List ℕ
front between = []
front comment = []
front (word w) = w
front (terminal t) = 91 ∷ t
front dash = 45 ∷ []
front dashes = 45 ∷ 45 ∷ []
front tilde = 126 ∷ []
front tildes = 126 ∷ 126 ∷ []
front slash = 47 ∷ []
front greater = 62 ∷ []

-- the text from here on has these symbols
abbrev pub From : Mode → List ℕ → List Lexeme → Type 0
From between text xs = SpellsFrom false text xs
From comment text xs = SpellsFrom true text xs
From (word w) text xs = Continues w text xs
From (terminal t) text xs = Continues (91 ∷ t) text xs
From dash text xs = Continues (45 ∷ []) text xs
From dashes text xs = Continues (45 ∷ 45 ∷ []) text xs
From tilde text xs = Continues (126 ∷ []) text xs
From tildes text xs = Continues (126 ∷ 126 ∷ []) text xs
From slash text xs = Continues (47 ∷ []) text xs
From greater text xs = Continues (62 ∷ []) text xs

-- what a reading has at the text's end
abbrev pub final : Builder → Mode → List ℕ → Option Builder
final b m [] = finish b m
final b m (x ∷ xs) = step b m x >>= λ s. final s.0 s.1 xs

-- from here to there the text spells what was taken
pub record Spelled (b : Builder) (m : Mode) (text : List ℕ) (c : Builder) : Type 0 where
  pub symbols : List Lexeme
  pub spells : From m text symbols
  pub grows : so_far c ≡ so_far b ++ symbols
  pub leads : runs b.spot symbols ≡ Some c.spot

-- nothing was taken
same_builder : (b c : Builder) (m k : Mode) (text rest : List ℕ) → ((xs : List Lexeme) → From k rest xs → From m text xs) → Spelled b k rest c
    → Spelled b m text c
same_builder b c m k text rest h s = record { symbols = s.symbols; spells = h s.symbols s.spells; grows = s.grows; leads = s.leads }

-- a symbol was taken
new_symbol : (b d c : Builder) (x : Lexeme) (m k : Mode) (text rest : List ℕ) → grow b x ≡ Some d → ((xs : List Lexeme) → From k rest xs → From m text (x ∷ xs))
    → Spelled d k rest c → Spelled b m text c
new_symbol b d c x m k text rest grown h s = record {
  symbols = x ∷ s.symbols;
  spells = h s.symbols s.spells;
  grows = s.grows ∙ ap (λ (t : List Lexeme). t ++ s.symbols) (grow_adds b x d grown) ∙ append_assoc (so_far b) (x ∷ []) s.symbols;
  leads = ap (λ (o : Option Spot). o >>= λ t. runs t s.symbols) (grow_spot b x d grown) ∙ s.leads;
}

-- only a reference's patterns have a - before them
pub minus_spot : (s t : Spot) → next_spot s (lexeme.Sign sign.Minus) ≡ Some t → t ≡ spot.Category part.Name role.Negative
minus_spot (spot.Category part.Named role.Positive) t e = cc
minus_spot (spot.Category part.Named role.Negative) t e = cc
minus_spot (spot.Category part.Whole role.Positive) t e = cc
minus_spot (spot.Category part.Whole role.Negative) t e = cc
minus_spot spot.Positives t e = cc
minus_spot spot.Negatives t e = cc
minus_spot s t e = absurd cc

-- where a name comes, no - stands
no_dash : (d : Builder) → d.spot ≡ spot.Category part.Name role.Negative → begin d 45 ≡ None
no_dash d e = rw e refl

front_dash : (b : ℕ) (rest : List ℕ) → has_front (codes "->") (b ∷ rest) ≡ true → b ≡ 45
front_dash b rest h = sym (eqb-true 45 b (and_parts (eqb 45 b) (has_front (codes ">") rest) h).0)

pub none_some : (o : Option Builder) (c : Builder) → o ≡ None → o ≡ Some c → ⊥
none_some o c p q = cc

-- what stands behind a - that was taken doesn't make it an arrow
minus_longest : (d c : Builder) (rest : List ℕ) → d.spot ≡ spot.Category part.Name role.Negative → final d between rest ≡ Some c
    → has_front (codes "->") rest ≡ false
minus_longest d c [] e f = refl
minus_longest d c (b ∷ rest) e f = elim (cases_Bool (has_front (codes "->") (b ∷ rest))) [
  | inl h ↦
      let is : begin d b ≡ None = ap (begin d) (front_dash b rest h) ∙ no_dash d e in
      let none : final d between (b ∷ rest) ≡ None = ap (λ (o : Option (Builder × Mode)). o >>= λ s. final s.0 s.1 rest) is in
      absurd (none_some (final d between (b ∷ rest)) c none f)
  | inr h ↦ h
]

-- a byte outside symbols

IsSingle : ℕ → Sign → Type 0
IsSingle b x = (sign_bytes x ≡ b ∷ []) × ((rest : List ℕ) → goes_on (lexeme.Sign x) rest ≡ false)

single_at : (n b : ℕ) (one x : Sign) (o : Option Sign) → ((sign_bytes one ≡ n ∷ []) × ((rest : List ℕ) → goes_on (lexeme.Sign one) rest ≡ false))
    → (o ≡ Some x → (sign_bytes x ≡ b ∷ []) × ((rest : List ℕ) → goes_on (lexeme.Sign x) rest ≡ false))
    → cond (eqb b n) (Some one) o ≡ Some x → (sign_bytes x ≡ b ∷ []) × ((rest : List ℕ) → goes_on (lexeme.Sign x) rest ≡ false)
single_at n b one x o good others e = elim (chosen (eqb b n) (Some one) o (Some x) e) [
  | inl h ↦
      let is : one ≡ x = let p = h.1 in cc in
      let byte : n ≡ b = sym (eqb-true b n h.0) in
      subst (λ (k : ℕ). (sign_bytes x ≡ k ∷ []) × ((rest : List ℕ) → goes_on (lexeme.Sign x) rest ≡ false)) byte
      (subst (λ (t : Sign). (sign_bytes t ≡ n ∷ []) × ((rest : List ℕ) → goes_on (lexeme.Sign t) rest ≡ false)) is good)
  | inr h ↦ others h.1
]

none_sign : {A : Type 0} (x : Sign) → None ≡ Some x → A
none_sign x e = absurd cc

single_is : (b : ℕ) (x : Sign) → single b ≡ Some x → (sign_bytes x ≡ b ∷ []) × ((rest : List ℕ) → goes_on (lexeme.Sign x) rest ≡ false)
single_is b x =
    single_at 58 b sign.Colon x _ (refl, λ rest. refl)
    (single_at 44 b sign.Comma x _ (refl, λ rest. refl)
    (single_at 46 b sign.Stop x _ (refl, λ rest. refl)
    (single_at 123 b sign.OpenBrace x _ (refl, λ rest. refl)
    (single_at 125 b sign.CloseBrace x _ (refl, λ rest. refl)
    (single_at 40 b sign.OpenParen x _ (refl, λ rest. refl)
    (single_at 41 b sign.CloseParen x _ (refl, λ rest. refl)
    (single_at 36 b sign.Dollar x _ (refl, λ rest. refl)
    (single_at 35 b sign.Hash x _ (refl, λ rest. refl)
    (single_at 60 b sign.Back x _ (refl, λ rest. refl)
    (single_at 43 b sign.Plus x _ (refl, λ rest. refl)
    (single_at 63 b sign.Question x None (refl, λ rest. refl) (none_sign x))))))))))))

-- a symbol of one byte
one_byte : (d e c : Builder) (x : Lexeme) (b : ℕ) (rest : List ℕ) → grow d x ≡ Some e → lexeme_bytes x ≡ b ∷ [] → is_symbol x ≡ true → goes_on x rest ≡ false
    → Spelled e between rest c → Spelled d between (b ∷ rest) c
one_byte d e c x b rest grown bytes symbol longest s =
    new_symbol d e c x between between (b ∷ rest) rest grown
    (λ xs h. begins_here [] (b ∷ rest) (x ∷ xs) (continues_whole [] b rest x xs bytes symbol longest h)) s

-- a symbol that begins
begins_by : (d c : Builder) (m : Mode) (b : ℕ) (rest : List ℕ) → ((xs : List Lexeme) → From m rest xs → Continues (b ∷ []) rest xs) → Spelled d m rest c
    → Spelled d between (b ∷ rest) c
begins_by d c m b rest h s = same_builder d c between m (b ∷ rest) rest (λ xs f. begins_here (b ∷ []) rest xs (h xs f)) s

abbrev Goal : Builder → Builder → List ℕ → ℕ → Type 0
Goal d c rest b = Spelled d between (b ∷ rest) c

-- what comes behind a step
pub record Behind (s : Builder × Mode) (rest : List ℕ) (c : Builder) : Type 0 where
  pub ends : final s.0 s.1 rest ≡ Some c
  pub spelled : Spelled s.0 s.1 rest c

spelled_at : (s t : Builder × Mode) (rest : List ℕ) (c : Builder) → t ≡ s → Behind s rest c → Behind t rest c
spelled_at s t rest c e h = subst (λ (u : Builder × Mode). Behind u rest c) (sym e) h

dash_spelled : (d c : Builder) (rest : List ℕ) (s : Builder × Mode) → begin_dash d ≡ Some s → Behind s rest c → Spelled d between (45 ∷ rest) c
dash_spelled d c rest s e h = elim (chosen (takes_sign d sign.Minus) (behind (grow d (lexeme.Sign sign.Minus))) (guard (takes_sign d sign.Normal) (d, dash))
    (Some s) e) [
      | inl p ↦
          let g = behind_some (grow d (lexeme.Sign sign.Minus)) s p.1 in
          let after = spelled_at s (g.0, between) rest c g.2 h in
          one_byte d g.0 c (lexeme.Sign sign.Minus) 45 rest g.1 refl refl
          (minus_longest g.0 c rest (minus_spot d.spot g.0.spot (grow_spot d (lexeme.Sign sign.Minus) g.0 g.1)) after.ends) after.spelled
      | inr p ↦
          let g = guard_some (takes_sign d sign.Normal) (d, dash) s p.1 in
          begins_by d c dash 45 rest (λ xs f. f) (spelled_at s (d, dash) rest c g.1 h).spelled
    ]

single_spelled : (d c : Builder) (b : ℕ) (rest : List ℕ) (s : Builder × Mode) → begin_single d b ≡ Some s → Behind s rest c → Spelled d between (b ∷ rest) c
single_spelled d c b rest s e h =
    let one = bind_some (single b) (λ x. behind (grow d (lexeme.Sign x))) s e in
    let g = behind_some (grow d (lexeme.Sign one.0)) s one.2 in
    let is = single_is b one.0 one.1 in
    one_byte d g.0 c (lexeme.Sign one.0) b rest g.1 is.0 refl (is.1 rest) (spelled_at s (g.0, between) rest c g.2 h).spelled

sign_spelled : (d c : Builder) (b : ℕ) (rest : List ℕ) (s : Builder × Mode) → begin_sign d b ≡ Some s → Behind s rest c → Spelled d between (b ∷ rest) c
sign_spelled d c b rest s e h = elim (chosen (eqb b 91) (guard (takes_terminal d) (d, terminal [])) _ (Some s) e) [
  | inl p ↦
      let g = guard_some (takes_terminal d) (d, terminal []) s p.1 in
      subst (Goal d c rest) (sym (eqb-true b 91 p.0)) (begins_by d c (terminal []) 91 rest (λ xs f. f) (spelled_at s (d, terminal []) rest c g.1 h).spelled)
  | inr p ↦ elim (chosen (eqb b 45) (begin_dash d) _ (Some s) p.1) [
    | inl q ↦ subst (Goal d c rest) (sym (eqb-true b 45 q.0)) (dash_spelled d c rest s q.1 h)
    | inr q ↦ elim (chosen (eqb b 126) (guard (takes_sign d sign.Closing) (d, tilde)) _ (Some s) q.1) [
      | inl r ↦
          let g = guard_some (takes_sign d sign.Closing) (d, tilde) s r.1 in
          subst (Goal d c rest) (sym (eqb-true b 126 r.0)) (begins_by d c tilde 126 rest (λ xs f. f) (spelled_at s (d, tilde) rest c g.1 h).spelled)
      | inr r ↦ elim (chosen (eqb b 47) (guard (takes_sign d sign.Scope) (d, slash)) _ (Some s) r.1) [
        | inl t ↦
            let g = guard_some (takes_sign d sign.Scope) (d, slash) s t.1 in
            subst (Goal d c rest) (sym (eqb-true b 47 t.0)) (begins_by d c slash 47 rest (λ xs f. f) (spelled_at s (d, slash) rest c g.1 h).spelled)
        | inr t ↦ elim (chosen (eqb b 62) (guard (takes_sign d sign.Weak) (d, greater)) (begin_single d b) (Some s) t.1) [
          | inl u ↦
              let g = guard_some (takes_sign d sign.Weak) (d, greater) s u.1 in
              subst (Goal d c rest) (sym (eqb-true b 62 u.0)) (begins_by d c greater 62 rest (λ xs f. f) (spelled_at s (d, greater) rest c g.1 h).spelled)
          | inr u ↦ single_spelled d c b rest s u.1 h
        ]
      ]
    ]
  ]
]

begin_spelled : (d c : Builder) (b : ℕ) (rest : List ℕ) (s : Builder × Mode) → begin d b ≡ Some s → Behind s rest c → Spelled d between (b ∷ rest) c
begin_spelled d c b rest s e h = elim (chosen (is_space b) (Some (d, between)) _ (Some s) e) [
  | inl p ↦ same_builder d c between between (b ∷ rest) rest (λ xs. spells_space b rest xs p.0)
      (spelled_at s (d, between) rest c (same_Some (d, between) s p.1) h).spelled
  | inr p ↦ elim (chosen (eqb b 37) (Some (d, comment)) _ (Some s) p.1) [
    | inl q ↦ same_builder d c between comment (b ∷ rest) rest (λ xs. spells_comment b rest xs (eqb-true b 37 q.0))
        (spelled_at s (d, comment) rest c (same_Some (d, comment) s q.1) h).spelled
    | inr q ↦ elim (chosen (may_begin (wants d.spot) b) (Some (d, word (b ∷ []))) (begin_sign d b) (Some s) q.1) [
      | inl r ↦ begins_by d c (word (b ∷ [])) b rest (λ xs f. f) (spelled_at s (d, word (b ∷ [])) rest c (same_Some (d, word (b ∷ [])) s r.1) h).spelled
      | inr r ↦ sign_spelled d c b rest s r.1 h
    ]
  ]
]

-- one byte in a symbol

comment_from : (t : Bool) (rest : List ℕ) (xs : List Lexeme) → From (cond t between comment) rest xs → SpellsFrom (not t) rest xs
comment_from true rest xs h = h
comment_from false rest xs h = h

word_spelled : (b c : Builder) (w : List ℕ) (x : ℕ) (rest : List ℕ) (s : Builder × Mode) → step b (word w) x ≡ Some s → Behind s rest c
    → Spelled b (word w) (x ∷ rest) c
word_spelled b c w x rest s e h = elim (chosen (is_word_byte x) (guard (may_go_on (wants b.spot) (push w x)) (b, word (push w x)))
    (finish b (word w) >>= λ d. begin d x) (Some s) e) [
      | inl p ↦
          let g = guard_some (may_go_on (wants b.spot) (push w x)) (b, word (push w x)) s p.1 in
          same_builder b c (word w) (word (push w x)) (x ∷ rest) rest (λ xs f. continues_more w x rest xs f)
          (spelled_at s (b, word (push w x)) rest c g.1 h).spelled
      | inr p ↦
          let f = bind_some (finish b (word w)) (λ d. begin d x) s p.1 in
          let y = bind_some (as_word (wants b.spot) w) (λ y. grow b y) f.0 f.1 in
          let is = word_some (wants b.spot) w y.0 y.1 in
          new_symbol b f.0 c y.0 (word w) between (x ∷ rest) (x ∷ rest) y.2
          (λ xs k. continues_before w (x ∷ rest) y.0 xs is.0 is.1 (word_stops y.0 x rest (word_is (wants b.spot) w y.0 y.1) p.0) k)
          (begin_spelled f.0 c x rest s f.2 h)
    ]

terminal_spelled : (b c : Builder) (t : List ℕ) (x : ℕ) (rest : List ℕ) (s : Builder × Mode) → step b (terminal t) x ≡ Some s → Behind s rest c
    → Spelled b (terminal t) (x ∷ rest) c
terminal_spelled b c t x rest s e h = elim (chosen (eqb x 93) (if_terminal b t) (guard (is_terminal_byte x) (b, terminal (push t x))) (Some s) e) [
  | inl p ↦ elim (chosen (is_terminal t) (behind (grow b (lexeme.Terminal t))) None (Some s) p.1) [
    | inl q ↦
        let g = behind_some (grow b (lexeme.Terminal t)) s q.1 in
        subst (λ (n : ℕ). Spelled b (terminal t) (n ∷ rest) c) (sym (eqb-true x 93 p.0))
        (new_symbol b g.0 c (lexeme.Terminal t) (terminal t) between (93 ∷ rest) rest g.1
        (λ xs k. continues_whole (91 ∷ t) 93 rest (lexeme.Terminal t) xs refl q.0 refl k) (spelled_at s (g.0, between) rest c g.2 h).spelled)
    | inr q ↦ absurd (let f = q.1 in cc)
  ]
  | inr p ↦
      let g = guard_some (is_terminal_byte x) (b, terminal (push t x)) s p.1 in
      same_builder b c (terminal t) (terminal (push t x)) (x ∷ rest) rest (λ xs f. continues_more (91 ∷ t) x rest xs f)
      (spelled_at s (b, terminal (push t x)) rest c g.1 h).spelled
]

-- a further byte of a sign
further : (b c : Builder) (m k : Mode) (n x : ℕ) (rest : List ℕ) (s : Builder × Mode) → ((xs : List Lexeme) → From k rest xs → From m (n ∷ rest) xs)
    → guard (eqb x n) (b, k) ≡ Some s → Behind s rest c → Spelled b m (x ∷ rest) c
further b c m k n x rest s f e h =
    let g = guard_some (eqb x n) (b, k) s e in
    subst (λ (v : ℕ). Spelled b m (v ∷ rest) c) (sym (eqb-true x n g.0)) (same_builder b c m k (n ∷ rest) rest f (spelled_at s (b, k) rest c g.1 h).spelled)

-- the last byte of a sign
last : (b c : Builder) (m : Mode) (y : Sign) (n x : ℕ) (rest : List ℕ) (s : Builder × Mode) → eqb x n ≡ true
    → ((xs : List Lexeme) → SpellsFrom false rest xs → From m (n ∷ rest) (lexeme.Sign y ∷ xs)) → behind (grow b (lexeme.Sign y)) ≡ Some s → Behind s rest c
    → Spelled b m (x ∷ rest) c
last b c m y n x rest s t f e h =
    let g = behind_some (grow b (lexeme.Sign y)) s e in
    subst (λ (v : ℕ). Spelled b m (v ∷ rest) c) (sym (eqb-true x n t))
    (new_symbol b g.0 c (lexeme.Sign y) m between (n ∷ rest) rest g.1 f (spelled_at s (g.0, between) rest c g.2 h).spelled)

last_only : (b c : Builder) (m : Mode) (y : Sign) (n x : ℕ) (rest : List ℕ) (s : Builder × Mode)
    → ((xs : List Lexeme) → SpellsFrom false rest xs → From m (n ∷ rest) (lexeme.Sign y ∷ xs)) → cond (eqb x n) (behind (grow b (lexeme.Sign y))) None ≡ Some s
    → Behind s rest c → Spelled b m (x ∷ rest) c
last_only b c m y n x rest s f e h = elim (chosen (eqb x n) (behind (grow b (lexeme.Sign y))) None (Some s) e) [
  | inl p ↦ last b c m y n x rest s p.0 f p.1 h
  | inr p ↦ absurd (let q = p.1 in cc)
]

slash_spelled : (b c : Builder) (x : ℕ) (rest : List ℕ) (s : Builder × Mode) → step b slash x ≡ Some s → Behind s rest c → Spelled b slash (x ∷ rest) c
slash_spelled b c x rest s e h = elim (chosen (eqb x 47) (behind (grow b (lexeme.Sign sign.Scope)))
    (cond (eqb x 60) (behind (grow b (lexeme.Sign sign.NoBack))) None) (Some s) e) [
      | inl p ↦ last b c slash sign.Scope 47 x rest s p.0 (λ xs k. continues_whole (47 ∷ []) 47 rest (lexeme.Sign sign.Scope) xs refl refl refl k) p.1 h
      | inr p ↦ last_only b c slash sign.NoBack 60 x rest s (λ xs k. continues_whole (47 ∷ []) 60 rest (lexeme.Sign sign.NoBack) xs refl refl refl k) p.1 h
    ]

other_way : (a b : ℕ) → eqb a b ≡ false → eqb b a ≡ false
other_way a b h = elim (cases_Bool (eqb b a)) [
  | inl e ↦ absurd (both_ways (eqb a b) h (subst (λ (n : ℕ). eqb a n ≡ true) (sym (eqb-true b a e)) (same_number a)))
  | inr e ↦ e
] where
  same_number : (n : ℕ) → eqb n n ≡ true
  same_number n = eq-eqb n n refl

greater_spelled : (b c : Builder) (x : ℕ) (rest : List ℕ) (s : Builder × Mode) → step b greater x ≡ Some s → Behind s rest c → Spelled b greater (x ∷ rest) c
greater_spelled b c x rest s e h = elim (chosen (eqb x 62) (behind (grow b (lexeme.Sign sign.Strong))) (finish b greater >>= λ d. begin d x) (Some s) e) [
  | inl p ↦ last b c greater sign.Strong 62 x rest s p.0 (λ xs k. continues_whole (62 ∷ []) 62 rest (lexeme.Sign sign.Strong) xs refl refl refl k) p.1 h
  | inr p ↦
      let f = bind_some (finish b greater) (λ d. begin d x) s p.1 in
      let apart : has_front (codes ">") (x ∷ rest) ≡ false = rw (other_way x 62 p.0) refl in
      new_symbol b f.0 c (lexeme.Sign sign.Weak) greater between (x ∷ rest) (x ∷ rest) f.1
      (λ xs k. continues_before (62 ∷ []) (x ∷ rest) (lexeme.Sign sign.Weak) xs refl refl apart k)
      (begin_spelled f.0 c x rest s f.2 h)
]

step_spelled : (b c : Builder) (m : Mode) (x : ℕ) (rest : List ℕ) (s : Builder × Mode) → step b m x ≡ Some s → Behind s rest c → Spelled b m (x ∷ rest) c
step_spelled b c between x rest s e h = begin_spelled b c x rest s e h
step_spelled b c comment x rest s e h =
    same_builder b c comment (cond (eqb x 10) between comment) (x ∷ rest) rest (λ xs f. spells_in_comment x rest xs (comment_from (eqb x 10) rest xs f))
    (spelled_at s (b, cond (eqb x 10) between comment) rest c (same_Some (b, cond (eqb x 10) between comment) s e) h).spelled
step_spelled b c (word w) x rest s e h = word_spelled b c w x rest s e h
step_spelled b c (terminal t) x rest s e h = terminal_spelled b c t x rest s e h
step_spelled b c dash x rest s e h = further b c dash dashes 45 x rest s (λ xs f. continues_more (45 ∷ []) 45 rest xs f) e h
step_spelled b c dashes x rest s e h = last_only b c dashes sign.Normal 62 x rest s
    (λ xs k. continues_whole (45 ∷ 45 ∷ []) 62 rest (lexeme.Sign sign.Normal) xs refl refl refl k) e h
step_spelled b c tilde x rest s e h = further b c tilde tildes 126 x rest s (λ xs f. continues_more (126 ∷ []) 126 rest xs f) e h
step_spelled b c tildes x rest s e h = last_only b c tildes sign.Closing 62 x rest s
    (λ xs k. continues_whole (126 ∷ 126 ∷ []) 62 rest (lexeme.Sign sign.Closing) xs refl refl refl k) e h
step_spelled b c slash x rest s e h = slash_spelled b c x rest s e h
step_spelled b c greater x rest s e h = greater_spelled b c x rest s e h

-- at the end of the text

nothing_left : (b c : Builder) (m : Mode) → From m [] [] → b ≡ c → Spelled b m [] c
nothing_left b c m f e = subst (λ (t : Builder). Spelled b m [] t) e (record { symbols = []; spells = f; grows = sym (append-nil (so_far b)); leads = refl })

word_ends : (b c : Builder) (w : List ℕ) → finish b (word w) ≡ Some c → Spelled b (word w) [] c
word_ends b c w e =
    let y = bind_some (as_word (wants b.spot) w) (λ y. grow b y) c e in
    let is = word_some (wants b.spot) w y.0 y.1 in
    new_symbol b c c y.0 (word w) between [] [] y.2 (λ xs k. continues_before w [] y.0 xs is.0 is.1 (ends_all y.0) k) (nothing_left c c between refl refl)

ends_spelled : (b c : Builder) (m : Mode) → finish b m ≡ Some c → Spelled b m [] c
ends_spelled b c between e = nothing_left b c between refl (same_Some b c e)
ends_spelled b c comment e = nothing_left b c comment refl (same_Some b c e)
ends_spelled b c (word w) e = word_ends b c w e
ends_spelled b c (terminal t) e = absurd cc
ends_spelled b c dash e = absurd cc
ends_spelled b c dashes e = absurd cc
ends_spelled b c tilde e = absurd cc
ends_spelled b c tildes e = absurd cc
ends_spelled b c slash e = absurd cc
ends_spelled b c greater e = new_symbol b c c (lexeme.Sign sign.Weak) greater between [] [] e
    (λ xs k. continues_before (62 ∷ []) [] (lexeme.Sign sign.Weak) xs refl refl refl k) (nothing_left c c between refl refl)

-- what a reading takes up to the end is spelled by the text
pub final_spelled : (text : List ℕ) (b c : Builder) (m : Mode) → final b m text ≡ Some c → Spelled b m text c
final_spelled [] b c m e = ends_spelled b c m e
final_spelled (x ∷ xs) b c m e =
    let s = bind_some (step b m x) (λ s. final s.0 s.1 xs) c e in
    step_spelled b c m x xs s.0 s.1 (record { ends = s.2; spelled = final_spelled xs s.0.0 c s.0.1 s.2 })
