use Rattle.std.proofs.Common.{◌∙◌, map, sym}
use Rattle.derivations.specs.Entries.{shown, goes_on}
use Rattle.chart.proofs.FollowLemmas.{follows_test, put_where, left_where}
use Rattle.chart.proofs.menus.consider.Goals as goal

pub returns-then-not-yes : goal.returns-then-not-yes
returns-then-not-yes c =
    let g = c.args.grammar.now in
    let l = c.args.lexicon.now in
    let t = c.args.tokens.now in
    record {
      entries = left_where (goes_on g l t) (c.args.group, c.args.text.now) (map shown c.args.entries.now.items)
          (sym c.if-not-yes.true ∙ follows_test g l t (c.args.group, c.args.text.now) c.in_ok-yes.yes c.requires.sound c.in_ok-yes.ensures);
    }

pub returns : goal.returns
returns c =
    let g = c.args.grammar.now in
    let l = c.args.lexicon.now in
    let t = c.args.tokens.now in
    record {
      entries = put_where (goes_on g l t) (c.args.group, c.args.text.now) (map shown c.args.entries.now.items) (map shown c.put.new.entries.items)
          (sym c.if-not-yes.false ∙ follows_test g l t (c.args.group, c.args.text.now) c.in_ok-yes.yes c.requires.sound c.in_ok-yes.ensures)
          c.in_ok-put.ensures;
    }
