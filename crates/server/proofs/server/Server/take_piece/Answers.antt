use Rattle.std.proofs.Common.{◌≡◌, ◌==◌, sym, subst, ap, ◌∙◌, ◌++◌, Some}
use Rattle.std.specs.List.{position}
use Rattle.server.specs.declared.connections.Connection.{Connection}
use Rattle.server.specs.declared.turns.Turn.TheVariants as turns
use Rattle.server.specs.Reading.{IsSeen}
use Rattle.server.proofs.KeptLemmas.{found, takes_piece, after_wait, after_response}
use Rattle.server.proofs.server.Server.take_piece.Goals as goal

pub unreachable-requires : goal.unreachable-requires
unreachable-requires c =
    found c.args.number c.self.inside.kept.items c.args.self.now c.self.view_is c.requires
    (ap (position (λ (x : Connection). x.number == c.args.number)) (sym c.deref.ensures.value) ∙ sym c.place_of.ensures ∙ c.in_default.is)

pub returns-in-Wait-clause-turn : goal.returns-in-Wait-clause-turn
returns-in-Wait-clause-turn c =
    let one : Connection = c.index_mut-connection.result.now in
    let items = c.self.inside.kept.items in
    let at_place : position (λ (x : Connection). x.number == c.args.number) items ≡ Some c.in-Some.place =
    ap (position (λ (x : Connection). x.number == c.args.number)) (sym c.deref.ensures.value) ∙ sym c.place_of.ensures ∙ c.in-Some.is in
    let is_seen : IsSeen one.number (one.bytes ++ c.args.piece.now) turns.Wait =
    subst (λ t. IsSeen one.number (one.bytes ++ c.args.piece.now) t) c.in-Wait.is c.in_ok-turn.ensures.turn in
    let is_there = c.index_mut-connection.ensures.value in
    let number = c.take_piece.ensures.number in
    let bytes = c.in_ok-turn.ensures.bytes in
    takes_piece c.args.self.now items c.args.number c.in-Some.place c.args.piece.now one c.take_piece.new.self c.self.view_is at_place is_there number bytes
    turns.Wait _ is_seen
    (after_wait c.args.self.now items c.args.number c.in-Some.place c.args.piece.now one c.take_piece.new.self c.self.view_is at_place is_there number bytes)

pub returns-in_default-turn : goal.returns-in_default-turn
returns-in_default-turn c =
    let one : Connection = c.index_mut-connection.result.now in
    let items = c.self.inside.kept.items in
    let at_place : position (λ (x : Connection). x.number == c.args.number) items ≡ Some c.in-Some.place =
    ap (position (λ (x : Connection). x.number == c.args.number)) (sym c.deref.ensures.value) ∙ sym c.place_of.ensures ∙ c.in-Some.is in
    let is_there = c.index_mut-connection.ensures.value in
    let number = c.take_piece.ensures.number in
    let bytes = c.in_ok-turn.ensures.bytes in
    record {
      turn = takes_piece c.args.self.now items c.args.number c.in-Some.place c.args.piece.now one c.take_piece.new.self c.self.view_is at_place is_there number
          bytes c.in_ok-turn.turn _ c.in_ok-turn.ensures.turn
          (c.close.ensures ∙ after_response c.args.self.now items c.args.number c.in-Some.place c.args.piece.now one c.take_piece.new.self c.self.view_is
          at_place is_there number bytes c.in_ok-turn.turn c.in_default-turn.not-Wait);
      memory = tt;
    }
