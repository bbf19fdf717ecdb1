use Rattle.std.proofs.Common.{◌≡◌, List, ℕ, ◌++◌, length, take, IfSome, sym, subst, ap, ◌∙◌, refl}
use Rattle.std.proofs.lemmas.List.{take_at}
use Rattle.http_front.specs.declared.seen.Begun.TheVariants as begun
use Rattle.http_front.specs.Front.{Begins}
use Rattle.server.proofs.ReadLemmas.{begins_more}
use Rattle.server.proofs.connections.Connection.take_piece.Goals as goal

pub returns-in_err-extend-clause-read : goal.returns-in_err-extend-clause-read
returns-in_err-extend-clause-read c = subst (λ (bs : List ℕ). IfSome c.args.self.now.head (λ h. Begins bs (begun.Head h))) (sym c.in_err-extend.ensures.err)
    c.requires

pub reading-requires : goal.reading-requires
reading-requires c =
    subst (λ (bs : List ℕ). IfSome c.args.self.now.head (λ h. Begins bs (begun.Head h))) (sym c.in_ok-extend.ensures.ok)
    (begins_more c.args.self.now.head c.args.self.now.bytes c.args.piece.now c.requires)

pub note-requires-clause-before : goal.note-requires-clause-before
note-requires-clause-before c =
    subst (λ (bs : List ℕ). IfSome c.args.self.now.head (λ h. Begins bs (begun.Head h))) (sym c.in_ok-extend.ensures.ok)
    (begins_more c.args.self.now.head c.args.self.now.bytes c.args.piece.now c.requires)

pub returns-in-Err-clause-read : goal.returns-in-Err-clause-read
returns-in-Err-clause-read c =
    let old = c.args.self.now.bytes in
    let same : c.truncate.new.self ≡ old =
    c.truncate.ensures ∙ ap (take c.len-before.result) c.in_ok-extend.ensures.ok ∙ ap (λ (k : ℕ). take k (old ++ c.args.piece.now)) c.len-before.ensures
    ∙ take_at old c.args.piece.now (length old) refl in
    subst (λ (bs : List ℕ). IfSome c.args.self.now.head (λ h. Begins bs (begun.Head h))) (sym same) c.requires
