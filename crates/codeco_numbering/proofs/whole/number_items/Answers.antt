use Rattle.std.proofs.Common.{◌≡◌, ◌<◌, ℕ, List, All, length, map, sym, ap, subst, ◌∙◌, arith}
use Rattle.std.proofs.lemmas.Result.{IfOk-weaker}
use Rattle.codeco_numbering.specs.declared.tables.GrammarTables.{GrammarTables}
use Rattle.codeco_numbering.specs.Numbered.{NamedFeature, all_features, atoms_of, numbered_feature, rules_of}
use Rattle.codeco_numbering.specs.Fitting.{HasRoom, rule_tables}
use Rattle.codeco_numbering.proofs.Bounds.{declared_once, few_atoms, all_room}
use Rattle.codeco_numbering.proofs.Joined.{tables_same, parts_same}
use Rattle.codeco_numbering.proofs.whole.number_items.Goals as goal

pub all_features-requires : goal.all_features-requires
all_features-requires c = declared_once c.args.items.now c.requires.fits c.requires.early

pub numbered_features-requires : goal.numbered_features-requires
numbered_features-requires c =
    let items = c.args.items.now in
    let atoms : c.in_ok-atoms.atoms ≡ atoms_of (all_features items) = c.in_ok-atoms.ensures ∙ ap atoms_of c.in_ok-table.ensures in
    let few = few_atoms items c.requires.fits c.requires.early in
    subst (λ (names : List (List ℕ)). length names < 65536) (sym atoms) (omega arith)

pub numbered_rules-requires : goal.numbered_rules-requires
numbered_rules-requires c =
    let items = c.args.items.now in
    let names : c.into_names.result ≡ map (λ f. f.name) (all_features items) =
    c.into_names.ensures ∙ ap (λ (fs : List NamedFeature). map (λ f. f.name) fs) c.in_ok-table.ensures in
    let atoms = c.atoms.view_is ∙ c.in_ok-atoms.ensures ∙ ap atoms_of c.in_ok-table.ensures in
    let same = tables_same items c.into_names.result _ c.in_ok-terminals_of.field-0 c.in_ok-categories_of.field-0 names atoms c.in_ok-terminals_of.ensures
    c.in_ok-categories_of.ensures in
    subst (λ (g : GrammarTables). All (λ r. HasRoom (rule_tables g r)) (rules_of items)) (sym same) (all_room items c.requires.fits c.requires.early)

pub returns : goal.returns
returns c =
    let items = c.args.items.now in
    let names : c.into_names.result ≡ map (λ f. f.name) (all_features items) =
    c.into_names.ensures ∙ ap (λ (fs : List NamedFeature). map (λ f. f.name) fs) c.in_ok-table.ensures in
    let atoms = c.atoms.view_is ∙ c.in_ok-atoms.ensures ∙ ap atoms_of c.in_ok-table.ensures in
    let same = tables_same items c.into_names.result _ c.in_ok-terminals_of.field-0 c.in_ok-categories_of.field-0 names atoms c.in_ok-terminals_of.ensures
    c.in_ok-categories_of.ensures in
    let atoms_are : c.in_ok-atoms.atoms ≡ atoms_of (all_features items) = c.in_ok-atoms.ensures ∙ ap atoms_of c.in_ok-table.ensures in
    let features : c.in_ok-features.features ≡ map (numbered_feature (atoms_of (all_features items))) (all_features items) =
    c.in_ok-features.ensures ∙ (λ i. map (numbered_feature (atoms_are i)) (c.in_ok-table.ensures i)) in
    IfOk-weaker c.grammar_of.result _ _ (λ grammar is. is
    ∙ parts_same items c.in_ok-features.features _ c.in_ok-rules.rules features same c.in_ok-rules.ensures) c.grammar_of.ensures
