use Rattle.std.proofs.Common.{◌≡◌, cond, Some, None, set, sym, subst, ap, ◌∙◌}
use Rattle.std.proofs.lemmas.Result.{err_from_is_err_and}
use Rattle.wiki_base.specs.declared.numbers.WordId.{WordId}
use Rattle.lexicon.specs.declared.kinds.Forms.{Forms}
use Rattle.lexicon.specs.declared.words.Word.{Word}
use Rattle.lexicon.specs.Words.{Listed, IsLexicon, IsPlaceOf, is_among, has_form, owner, others, forms_refusal, with_forms}
use Rattle.lexicon.specs.Index.{Indexes}
use Rattle.lexicon.proofs.Changing.{lexicon_with_forms, with_forms_at_place, owner-with_forms, reword_refusal-lives}
use Rattle.lexicon.proofs.words.Lexicon.reword.Goals as goal
use Rattle.lexicon.proofs.words.Lexicon.reword.Goals.{After-drop-old}

abbrev listed : After-drop-old → Listed
listed c = record { live = c.self.inside.words.items; terminals = c.self.inside.terminals; last = c.self.inside.last }

is_place : (c : After-drop-old) → IsPlaceOf c.self.inside.words.items c.args.id c.in-Some.place
is_place c = subst (λ (l : Listed). IsPlaceOf l.live c.args.id c.in-Some.place) (sym c.self.view_is) c.in-Some.ensures.place

free : (c : After-drop-old) → forms_refusal (others c.self.inside.words.items c.args.id) c.self.inside.terminals c.args.forms.now ≡ None
free c = subst (λ (l : Listed). forms_refusal (others l.live c.args.id) l.terminals c.args.forms.now ≡ None) (sym c.self.view_is) c.in_ok-refuse.ensures.free

-- the forms that are written are the ones given
written : (c : After-drop-old) → c.replace-old.new.dest ≡ c.args.forms.now
written c = c.replace-old.ensures.after ∙ c.in_ok-forms.ensures

-- the word at the place has the number given
same_number : (c : After-drop-old) → c.index_mut-word.result.now.id ≡ c.args.id
same_number c =
    let at : c.index_mut-word.result.now.id.0 ≡ c.args.id.0 =
    ap (λ (w : Word). w.id.0) c.index_mut-word.ensures.value ∙ (is_place c).numbered c.index_mut-word.result.now in
    ap (λ n. let id : WordId = record { 0 = n } in id) at

-- the table finds the word at its new forms, and not at the old ones
pub invariant_of-self-2 : goal.invariant_of-self-2
invariant_of-self-2 c =
    let word = c.index_mut-word.result.now in
    let forms = c.args.forms.now in
    let live = c.self.inside.words.items in
    let lexicon = lexicon_with_forms (listed c) c.self.invariant.0 c.args.id c.in-Some.place (is_place c) forms word c.index_mut-word.ensures.value
    c.requires.complete c.in_ok-keys.ensures.texts (free c) in
    let finds = owner-with_forms (listed c) c.self.invariant.0 c.args.id c.in-Some.place (is_place c) forms word c.index_mut-word.ensures.value
    c.requires.complete c.in_ok-keys.ensures.texts (free c) in
    subst (λ (new : Forms). IsLexicon (record (listed c) { live = set live c.in-Some.place (record { id = word.id; forms = new }) })
    × Indexes (set live c.in-Some.place (record { id = word.id; forms = new })) c.enter.new.index) (sym (written c)) (
      lexicon,
      λ text. c.enter.ensures text ∙ rw (
        c.in_ok-keys.ensures.keys,
        c.forget.ensures.found text,
        c.in_ok-make_room.ensures.same text,
        c.self.invariant.1 text,
        c.replace-old.ensures.value,
      ) (subst
          (λ (id : WordId). cond (is_among forms.texts text) (Some id) (cond (is_among word.forms.texts text) None (owner live text))
          ≡ owner (set live c.in-Some.place (record { id = word.id; forms = forms })) text) (same_number c)
          (subst (λ (w : Word). cond (is_among forms.texts text) (Some word.id) (cond (has_form text w) None (owner live text))
          ≡ owner (set live c.in-Some.place (record { id = word.id; forms = forms })) text) (sym c.index_mut-word.ensures.value) (finds text))),
    )

pub returns-clause-reworded : goal.returns-clause-reworded
returns-clause-reworded c =
    let word = c.index_mut-word.result.now in
    subst (λ (new : Forms). record (listed c) { live = set c.self.inside.words.items c.in-Some.place (record { id = word.id; forms = new }) }
    ≡ with_forms c.args.self.now c.args.id c.args.forms.now) (sym (written c)) (
    with_forms_at_place (listed c) c.self.invariant.0 c.args.id c.in-Some.place (is_place c) c.args.forms.now word c.index_mut-word.ensures.value
    c.requires.complete c.in_ok-keys.ensures.texts (free c)
    ∙ ap (λ (l : Listed). with_forms l c.args.id c.args.forms.now) c.self.view_is
    )

pub returns-clause-free : goal.returns-clause-free
returns-clause-free c = reword_refusal-lives c.args.self.now c.args.id c.args.forms.now c.in-Some.ensures.lives ∙ c.in_ok-refuse.ensures.free

pub returns-in_err-refuse-clause-refused : goal.returns-in_err-refuse-clause-refused
returns-in_err-refuse-clause-refused c =
    let p = err_from_is_err_and c.from_residual.result c.from_residual.ensures.1 in
    rw (reword_refusal-lives c.args.self.now c.args.id c.args.forms.now c.in-Some.ensures.lives, p.1, p.2) c.in_err-refuse.ensures.refused
