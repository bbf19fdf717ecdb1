-- The thirty labels and their names.
use Rattle.std.specs.Prelude.{ℕ, List, [], ◌∷◌, codes}
use Rattle.codeco_terms.specs.declared.rules.Label.{Label}
use Rattle.codeco_terms.specs.declared.rules.Label.TheVariants as label

abbrev pub label_name : Label → List ℕ
label_name label.Statement = codes "statement"
label_name label.Ask = codes "ask"
label_name label.If = codes "if"
label_name label.Say = codes "say"
label_name label.And = codes "and"
label_name label.Or = codes "or"
label_name label.Pass = codes "pass"
label_name label.Not = codes "not"
label_name label.Does = codes "does"
label_name label.Done = codes "done"
label_name label.Class = codes "class"
label_name label.Top = codes "top"
label_name label.Same = codes "same"
label_name label.Only = codes "only"
label_name label.Gap = codes "gap"
label_name label.Name = codes "name"
label_name label.Refer = codes "refer"
label_name label.Var = codes "var"
label_name label.Noun = codes "noun"
label_name label.Part = codes "part"
label_name label.Some = codes "some"
label_name label.Every = codes "every"
label_name label.No = codes "no"
label_name label.Something = codes "something"
label_name label.Everything = codes "everything"
label_name label.Nothing = codes "nothing"
label_name label.What = codes "what"
label_name label.Which = codes "which"
label_name label.Whichobj = codes "whichobj"
label_name label.Mark = codes "mark"

abbrev pub all_labels : List Label
all_labels = label.Statement ∷ label.Ask ∷ label.If ∷ label.Say ∷ label.And ∷ label.Or ∷ label.Pass ∷ label.Not ∷ label.Does ∷ label.Done
    ∷ label.Class ∷ label.Top ∷ label.Same ∷ label.Only ∷ label.Gap ∷ label.Name ∷ label.Refer ∷ label.Var ∷ label.Noun ∷ label.Part
    ∷ label.Some ∷ label.Every ∷ label.No ∷ label.Something ∷ label.Everything ∷ label.Nothing ∷ label.What ∷ label.Which ∷ label.Whichobj
    ∷ label.Mark ∷ []
