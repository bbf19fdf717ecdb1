use Rattle.std.proofs.Common.{◌≡◌, ℕ, List, [], ◌∷◌, ◌++◌, cond, map, true, refl, sym, ap, ◌∙◌}
use Rattle.std.proofs.lemmas.Bool.{cond-true}
use Rattle.codeco_text.specs.Names.{is_among}
use Rattle.codeco_numbering.proofs.NameTables.{key_added, any_among}
use Rattle.codeco_numbering.proofs.names.Names.add.Goals as goal

pub returns-in_ok-insert : goal.returns-in_ok-insert
returns-in_ok-insert c =
    let set : map (λ v. v.items) c.insert.new.self.keys
    ≡ cond (is_among c.args.self.now c.in_ok-from_slice.field-0.items) c.args.self.now (c.args.self.now ++ c.in_ok-from_slice.field-0.items ∷ []) =
    ap (map (λ v. v.items)) c.in_ok-insert.ensures.keys
    ∙ key_added (λ v. v.items) c.in_ok-from_slice.field-0.items c.self.inside.set.keys c.in_ok-from_slice.field-0 refl
    ∙ ap (λ (names : List (List ℕ)). cond (is_among names c.in_ok-from_slice.field-0.items) names (names ++ c.in_ok-from_slice.field-0.items ∷ []))
    c.self.view_is in
    set ∙ ap (λ w. cond (is_among c.args.self.now w) c.args.self.now (c.args.self.now ++ w ∷ [])) c.in_ok-from_slice.ensures.items

pub returns-else-not-contains : goal.returns-else-not-contains
returns-else-not-contains c =
    let w = c.args.name.now in
    let names = c.args.self.now in
    let found : c.contains.result ≡ true = c.if-not-contains.false in
    let among : is_among names w ≡ true =
    ap (λ (ns : List (List ℕ)). is_among ns w) (sym c.self.view_is) ∙ sym (any_among (λ v. v.items) w c.self.inside.set.keys) ∙ sym c.contains.ensures
    ∙ found in
    sym (cond-true (is_among names w) names (names ++ w ∷ []) among)
