-- Bytes as tokens, one after another: white space, signs, IRIs and words.
use Rattle.std.proofs.Common.{◌≡◌, ℕ, ◌+◌, ◌-◌, Bool, true, false, not, cond, eqb, ltb, ◌&&◌, ◌||◌, List, [], ◌∷◌, ◌++◌, map, length, take, drop, refl, sym, ap, subst, ◌∙◌, arith, append_assoc, append-nil, codes}
use Rattle.std.proofs.lemmas.List.{drop-drop}
use Rattle.std.proofs.Math.Seq.{take-append_seam, drop-append_seam}
use Rattle.std.specs.List.{list_all}
use Rattle.wiki_base.proofs.BoolLaws.{and_first, and_second}
use Rattle.wiki_base.proofs.ListLaws.{all_weaken}
use Rattle.owl_tokens.specs.declared.tokens.TokenKind.TheVariants as token
use Rattle.owl_tokens.specs.Tokens.{Token, Found, Broken, Whole, is_space, is_word_byte, is_iri_byte, gap_end, run, begins_with_greater, iri_at, enclosed, word_at, token_of, token_at, next, Cuts}
use Rattle.owl_grammar.specs.Files.{Piece, piece_of, word, iri_piece, sign, between, is_shallow}
use Rattle.owl_file.specs.ReadBack.{is_shallow_text}

-- ---- what comes next at a place

-- no test of a sum of tests holds
neither : (a b : Bool) → not (a || b) ≡ true → (a ≡ false) × (not b ≡ true)
neither false b h = (refl, h)
neither true b h = cc

is_no : (a : Bool) → not a ≡ true → a ≡ false
is_no false h = refl
is_no true h = cc

-- what a byte of a word isn't
pub record Plain (b : ℕ) : Type 0 where
  pub no_space : is_space b ≡ false
  pub no_open : eqb b 40 ≡ false
  pub no_close : eqb b 41 ≡ false
  pub no_equals : eqb b 61 ≡ false
  pub no_less : eqb b 60 ≡ false
  pub no_greater : eqb b 62 ≡ false
  pub no_quote : eqb b 34 ≡ false
  pub no_hash : eqb b 35 ≡ false

pub plain_byte : (b : ℕ) → is_word_byte b ≡ true → Plain b
plain_byte b h =
    let a0 = neither (is_space b) _ h in
    let a1 = neither (eqb b 40) _ a0.1 in
    let a2 = neither (eqb b 41) _ a1.1 in
    let a3 = neither (eqb b 61) _ a2.1 in
    let a4 = neither (eqb b 60) _ a3.1 in
    let a5 = neither (eqb b 62) _ a4.1 in
    let a6 = neither (eqb b 34) _ a5.1 in
    record {
      no_space = a0.0;
      no_open = a1.0;
      no_close = a2.0;
      no_equals = a3.0;
      no_less = a4.0;
      no_greater = a5.0;
      no_quote = a6.0;
      no_hash = is_no (eqb b 35) a6.1;
    }

-- white space is passed over
gap_space : (at b : ℕ) (bs : List ℕ) → is_space b ≡ true → gap_end at false (b ∷ bs) ≡ gap_end (at + 1) false bs
gap_space at b bs h = ap (λ c. cond c (gap_end (at + 1) false bs) (cond (eqb b 35) (gap_end (at + 1) true bs) at)) h

-- and nothing else but comments
gap_none : (at b : ℕ) (bs : List ℕ) → is_space b ≡ false → eqb b 35 ≡ false → gap_end at false (b ∷ bs) ≡ at
gap_none at b bs h k =
    ap (λ c. cond c (gap_end (at + 1) false bs) (cond (eqb b 35) (gap_end (at + 1) true bs) at)) h
    ∙ ap (λ c. cond c (gap_end (at + 1) true bs) at) k

-- the bytes behind the first, and behind the first k
drop_far : (text : List ℕ) (from k : ℕ) (bs : List ℕ) → drop from text ≡ bs → drop (from + k) text ≡ drop k bs
drop_far text from k bs h = sym (drop-drop k from text) ∙ ap (drop k) h

drop_next : (text : List ℕ) (from b : ℕ) (bs : List ℕ) → drop from text ≡ b ∷ bs → drop (from + 1) text ≡ bs
drop_next text from b bs h = drop_far text from 1 (b ∷ bs) h

module _ (text : List ℕ) (from b : ℕ) (bs : List ℕ) (here : drop from text ≡ b ∷ bs) where
  next_space : is_space b ≡ true → next text from ≡ next text (from + 1)
  next_space h =
      let gap : gap_end from false (drop from text) ≡ gap_end (from + 1) false (drop (from + 1) text) =
      ap (gap_end from false) here ∙ gap_space from b bs h ∙ ap (gap_end (from + 1) false) (sym (drop_next text from b bs here)) in
      ap (λ n. token_at n (drop n text)) gap

  next_here : is_space b ≡ false → eqb b 35 ≡ false → next text from ≡ token_of from b bs
  next_here h k =
      let gap : gap_end from false (drop from text) ≡ from = ap (gap_end from false) here ∙ gap_none from b bs h k in
      ap (λ n. token_at n (drop n text)) gap ∙ ap (token_at from) here

-- ---- runs of bytes

run_all : (is : ℕ → Bool) (w rest : List ℕ) → list_all is w ≡ true → run is rest ≡ 0 → run is (w ++ rest) ≡ length w
run_all is [] rest h k = k
run_all is (b ∷ bs) rest h k =
    let more = run_all is bs rest (and_second (is b) (list_all is bs) h) k in
    ap (λ c. cond c (1 + run is (bs ++ rest)) 0) (and_first (is b) (list_all is bs) h) ∙ omega (arith, more)

-- what stands in a word stands in an IRI too
iri_byte : (b : ℕ) → is_word_byte b ≡ true → is_iri_byte b ≡ true
iri_byte b h =
    let p = plain_byte b h in
    ap (λ c. not (c || eqb b 62)) p.no_space ∙ ap (λ c. not c) p.no_greater

-- no parenthesis stands in a word
deep_word : (most count : ℕ) (w rest : List ℕ) → list_all is_word_byte w ≡ true → is_shallow_text most count (w ++ rest) ≡ is_shallow_text most count rest
deep_word most count [] rest h = refl
deep_word most count (b ∷ bs) rest h =
    let p = plain_byte b (and_first (is_word_byte b) (list_all is_word_byte bs) h) in
    let more : Bool = is_shallow_text most count (bs ++ rest) in
    let deeper : Bool = ltb count most && is_shallow_text most (count + 1) (bs ++ rest) in
    let higher : Bool = is_shallow_text most (count - 1) (bs ++ rest) in
    ap (λ c. cond c deeper (cond (eqb b 41) higher more)) p.no_open
    ∙ ap (λ c. cond c higher more) p.no_close
    ∙ deep_word most count bs rest (and_second (is_word_byte b) (list_all is_word_byte bs) h)

-- ---- bytes that are these tokens

-- a text is cut into these tokens from a place on
pub record Cutting (text : List ℕ) (from : ℕ) (ps : List Piece) : Type 0 where
  pub tokens : List Token
  pub end : ℕ
  pub cut : Cuts text from tokens (Whole end)
  pub pieces : map piece_of tokens ≡ ps

-- wherever these bytes end a text, they are cut into these tokens; and their parentheses are those of the tokens
pub record Lexes (bs : List ℕ) (ps : List Piece) : Type 0 where
  pub cut : (text : List ℕ) (from : ℕ) → drop from text ≡ bs → Cutting text from ps
  pub deep : (most count : ℕ) → is_shallow_text most count bs ≡ is_shallow most count ps

pub lexes_as : (bs cs : List ℕ) (ps qs : List Piece) → bs ≡ cs → ps ≡ qs → Lexes bs ps → Lexes cs qs
lexes_as bs cs ps qs e f l = subst (λ (x : List ℕ). Lexes x qs) e (subst (λ (y : List Piece). Lexes bs y) f l)

-- no byte is left
pub lexes_end : Lexes [] []
lexes_end = record { cut = λ text from here. cutting text from here; deep = λ most count. refl }
  where
    cutting : (text : List ℕ) (from : ℕ) → drop from text ≡ [] → Cutting text from []
    cutting text from here = record {
      tokens = [];
      end = from;
      cut = ap (λ (l : List ℕ). token_at (gap_end from false l) (drop (gap_end from false l) text)) here ∙ ap (token_at from) here;
      pieces = refl;
    }

-- a byte of white space
pub lexes_space : (b : ℕ) (bs : List ℕ) (ps : List Piece) → is_space b ≡ true → eqb b 40 ≡ false → eqb b 41 ≡ false → Lexes bs ps → Lexes (b ∷ bs) ps
lexes_space b bs ps space no_open no_close l = record {
  cut = λ text from here. cutting text from here (l.cut text (from + 1) (drop_next text from b bs here));
  deep = λ most count.
      ap (λ c. cond c (ltb count most && is_shallow_text most (count + 1) bs)
      (cond (eqb b 41) (is_shallow_text most (count - 1) bs) (is_shallow_text most count bs))) no_open
      ∙ ap (λ c. cond c (is_shallow_text most (count - 1) bs) (is_shallow_text most count bs)) no_close
      ∙ l.deep most count;
}
  where
    from_here : (text : List ℕ) (from : ℕ) (ts : List Token) (end : ℕ) → next text from ≡ next text (from + 1)
        → Cuts text (from + 1) ts (Whole end) → Cuts text from ts (Whole end)
    from_here text from [] end same cut = same ∙ cut
    from_here text from (t ∷ ts) end same cut = (same ∙ cut.0, cut.1)

    cutting : (text : List ℕ) (from : ℕ) → drop from text ≡ b ∷ bs → Cutting text (from + 1) ps → Cutting text from ps
    cutting text from here c = record {
      tokens = c.tokens;
      end = c.end;
      cut = from_here text from c.tokens c.end (next_space text from b bs here space) c.cut;
      pieces = c.pieces;
    }

-- a token that is found, and what is behind it
found : (text : List ℕ) (from : ℕ) (t : Token) (p : Piece) (ps : List Piece) → next text from ≡ Found t → piece_of t ≡ p
    → Cutting text t.end ps → Cutting text from (p ∷ ps)
found text from t p ps here is c = record {
  tokens = t ∷ c.tokens;
  end = c.end;
  cut = (here, c.cut);
  pieces = λ i. is i ∷ c.pieces i;
}

-- signs
pub lexes_open : (bs : List ℕ) (ps : List Piece) → Lexes bs ps → Lexes (40 ∷ bs) (sign token.OpenParen ∷ ps)
lexes_open bs ps l = record {
  cut = λ text from here. found text from (record { kind = token.OpenParen; text = []; at = from; end = from + 1 }) (sign token.OpenParen) ps
      (next_here text from 40 bs here refl refl) refl (l.cut text (from + 1) (drop_next text from 40 bs here));
  deep = λ most count. ap (λ b. ltb count most && b) (l.deep most (count + 1));
}

pub lexes_close : (bs : List ℕ) (ps : List Piece) → Lexes bs ps → Lexes (41 ∷ bs) (sign token.CloseParen ∷ ps)
lexes_close bs ps l = record {
  cut = λ text from here. found text from (record { kind = token.CloseParen; text = []; at = from; end = from + 1 }) (sign token.CloseParen) ps
      (next_here text from 41 bs here refl refl) refl (l.cut text (from + 1) (drop_next text from 41 bs here));
  deep = λ most count. l.deep most (count - 1);
}

pub lexes_equals : (bs : List ℕ) (ps : List Piece) → Lexes bs ps → Lexes (61 ∷ bs) (sign token.Equals ∷ ps)
lexes_equals bs ps l = record {
  cut = λ text from here. found text from (record { kind = token.Equals; text = []; at = from; end = from + 1 }) (sign token.Equals) ps
      (next_here text from 61 bs here refl refl) refl (l.cut text (from + 1) (drop_next text from 61 bs here));
  deep = λ most count. l.deep most count;
}

-- a run of bytes between < and >
all_iri : (w : List ℕ) → list_all is_word_byte w ≡ true → list_all is_iri_byte w ≡ true
all_iri w h = all_weaken is_word_byte is_iri_byte iri_byte w h

pub lexes_iri : (w bs : List ℕ) (ps : List Piece) → list_all is_word_byte w ≡ true → Lexes bs ps → Lexes (60 ∷ w ++ 62 ∷ bs) (iri_piece w ∷ ps)
lexes_iri w bs ps h l = record {
  cut = λ text from here. cutting text from here;
  deep = λ most count. deep_word most count w (62 ∷ bs) h ∙ l.deep most count;
}
  where
    inside : List ℕ
    inside = w ++ 62 ∷ bs

    long : run is_iri_byte inside ≡ length w
    long = run_all is_iri_byte w (62 ∷ bs) (all_iri w h) refl

    behind : drop (length w) inside ≡ 62 ∷ bs
    behind = drop-append_seam w (62 ∷ bs)

    at_iri : (from : ℕ) → iri_at from inside ≡ enclosed token.Iri from inside (length w)
    at_iri from =
        ap (λ n. cond (begins_with_greater (drop n inside)) (enclosed token.Iri from inside n) (Broken from)) long
        ∙ ap (λ l. cond (begins_with_greater l) (enclosed token.Iri from inside (length w)) (Broken from)) behind

    cutting : (text : List ℕ) (from : ℕ) → drop from text ≡ 60 ∷ inside → Cutting text from (iri_piece w ∷ ps)
    cutting text from here =
        let n : ℕ = length w in
        let t : Token = record { kind = token.Iri; text = take n inside; at = from; end = from + n + 2 } in
        let rest : drop (from + n + 2) text ≡ bs =
        ap (λ k. drop k text) (let e : from + n + 2 ≡ from + 1 + n + 1 = omega arith in e)
        ∙ drop_far text (from + 1 + n) 1 (62 ∷ bs) (drop_far text (from + 1) n inside (drop_next text from 60 inside here) ∙ behind) in
        found text from t (iri_piece w) ps (next_here text from 60 inside here refl refl ∙ at_iri from)
        (ap (λ l. iri_piece l) (take-append_seam w (62 ∷ bs))) (l.cut text (from + n + 2) rest)

-- a word, where none of its bytes may follow it
abbrev pub Stops : List ℕ → Type 0
Stops bs = run is_word_byte bs ≡ 0

skip : {X : Type 0} (c : Bool) (x y z : X) → c ≡ false → y ≡ z → cond c x y ≡ z
skip c x y z h k = ap (λ c. cond c x y) h ∙ k

token_word : (at b : ℕ) (bs : List ℕ) → is_word_byte b ≡ true → token_of at b bs ≡ word_at at (b ∷ bs)
token_word at b bs h =
    let p = plain_byte b h in
    skip (eqb b 40) _ _ _ p.no_open (skip (eqb b 41) _ _ _ p.no_close (skip (eqb b 61) _ _ _ p.no_equals (skip (eqb b 60) _ _ _ p.no_less
    (skip (eqb b 34) _ _ _ p.no_quote (ap (λ c. cond c (word_at at (b ∷ bs)) (Broken at)) h)))))

pub lexes_word : (b : ℕ) (more bs : List ℕ) (ps : List Piece) → list_all is_word_byte (b ∷ more) ≡ true → Stops bs → Lexes bs ps
    → Lexes ((b ∷ more) ++ bs) (word (b ∷ more) ∷ ps)
lexes_word b more bs ps h stops l = record {
  cut = λ text from here. cutting text from here;
  deep = λ most count. deep_word most count (b ∷ more) bs h ∙ l.deep most count;
}
  where
    w : List ℕ
    w = b ∷ more

    first : is_word_byte b ≡ true
    first = and_first (is_word_byte b) (list_all is_word_byte more) h

    long : run is_word_byte (w ++ bs) ≡ length w
    long = run_all is_word_byte w bs h stops

    cutting : (text : List ℕ) (from : ℕ) → drop from text ≡ w ++ bs → Cutting text from (word w ∷ ps)
    cutting text from here =
        let p = plain_byte b first in
        let n : ℕ = run is_word_byte (w ++ bs) in
        let t : Token = record { kind = token.Word; text = take n (w ++ bs); at = from; end = from + n } in
        let rest : drop (from + n) text ≡ bs =
        drop_far text from n (w ++ bs) here ∙ ap (λ k. drop k (w ++ bs)) long ∙ drop-append_seam w bs in
        found text from t (word w) ps (next_here text from b (more ++ bs) here p.no_space p.no_hash ∙ token_word from b (more ++ bs) first)
        (ap (λ k. word (take k (w ++ bs))) long ∙ ap (λ l. word l) (take-append_seam w bs)) (l.cut text (from + n) rest)

-- ---- text that is written as tokens

-- in front of what ends a word, this text is these tokens
abbrev pub Writes : List ℕ → List Piece → Type 0
Writes text ps = (rest : List ℕ) (qs : List Piece) → Stops rest → Lexes rest qs → Lexes (text ++ rest) (ps ++ qs)

pub writes_word : (b : ℕ) (more : List ℕ) → list_all is_word_byte (b ∷ more) ≡ true → Writes (b ∷ more) (word (b ∷ more) ∷ [])
writes_word b more h rest qs stops l = lexes_word b more rest qs h stops l

-- a word that isn't empty
abbrev pub is_key : List ℕ → Bool
is_key [] = false
is_key (b ∷ bs) = list_all is_word_byte (b ∷ bs)

-- a keyword, and this between parentheses
pub writes_between : (k inside : List ℕ) (ps : List Piece) → is_key k ≡ true → Writes inside ps → Writes (k ++ 40 ∷ (inside ++ 41 ∷ [])) (between k ps)
writes_between [] inside ps h w rest qs stops l = cc
writes_between (b ∷ more) inside ps h w rest qs stops l =
    let k : List ℕ = b ∷ more in
    lexes_as (k ++ 40 ∷ (inside ++ 41 ∷ rest)) ((k ++ 40 ∷ (inside ++ 41 ∷ [])) ++ rest) (word k ∷ sign token.OpenParen ∷ (ps ++ sign token.CloseParen ∷ qs))
    (between k ps ++ qs)
    (sym (append_assoc k (40 ∷ (inside ++ 41 ∷ [])) rest ∙ ap (λ (l : List ℕ). k ++ 40 ∷ l) (append_assoc inside (41 ∷ []) rest)))
    (ap (λ (l : List Piece). word k ∷ sign token.OpenParen ∷ l) (sym (append_assoc ps (sign token.CloseParen ∷ []) qs)))
    (lexes_word b more (40 ∷ (inside ++ 41 ∷ rest)) (sign token.OpenParen ∷ (ps ++ sign token.CloseParen ∷ qs)) h refl
    (lexes_open (inside ++ 41 ∷ rest) (ps ++ sign token.CloseParen ∷ qs) (w (41 ∷ rest) (sign token.CloseParen ∷ qs) refl (lexes_close rest qs l))))

-- nothing behind it
pub writes_alone : (a : List ℕ) (ps : List Piece) → Writes a ps → Writes a (ps ++ [])
writes_alone a ps w rest qs stops l =
    lexes_as (a ++ rest) (a ++ rest) (ps ++ qs) ((ps ++ []) ++ qs) refl (ap (λ (l : List Piece). l ++ qs) (sym (append-nil ps))) (w rest qs stops l)

-- the same text
pub writes_as : (a b : List ℕ) (ps : List Piece) → a ≡ b → Writes a ps → Writes b ps
writes_as a b ps e w = subst (λ (l : List ℕ). Writes l ps) e w

-- two with a space between them
pub writes_spaced : (a b : List ℕ) (ps qs : List Piece) → Writes a ps → Writes b qs → Writes (a ++ 32 ∷ b) (ps ++ qs)
writes_spaced a b ps qs w v rest rs stops l =
    lexes_as (a ++ 32 ∷ (b ++ rest)) ((a ++ 32 ∷ b) ++ rest) (ps ++ (qs ++ rs)) ((ps ++ qs) ++ rs) (sym (append_assoc a (32 ∷ b) rest))
    (sym (append_assoc ps qs rs)) (w (32 ∷ (b ++ rest)) (qs ++ rs) refl (lexes_space 32 (b ++ rest) (qs ++ rs) refl refl refl (v rest rs stops l)))

-- a line
pub writes_line : (text rest : List ℕ) (ps qs : List Piece) → Writes text ps → Lexes rest qs → Lexes ((text ++ codes "\n") ++ rest) (ps ++ qs)
writes_line text rest ps qs w l =
    lexes_as (text ++ 10 ∷ rest) ((text ++ codes "\n") ++ rest) (ps ++ qs) (ps ++ qs) (sym (append_assoc text (10 ∷ []) rest)) refl
    (w (10 ∷ rest) qs refl (lexes_space 10 rest qs refl refl refl l))
