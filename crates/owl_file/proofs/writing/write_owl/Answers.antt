use Rattle.std.proofs.Common.{◌≡◌, subst}
use Rattle.std.specs.Str.{IsUtf8}
use Rattle.logic_terms.specs.Shown.{claims_of}
use Rattle.owl_file.specs.Written.{file_text}
use Rattle.owl_file.proofs.SpellingLemmas.{lines_written}
use Rattle.owl_file.proofs.ReadBackLemmas.{reads_back}
use Rattle.owl_file.proofs.writing.write_owl.Goals as goal

pub returns-clause-read_back : goal.returns-clause-read_back
returns-clause-read_back c =
    let is : c.put_line-3.new.out ≡ file_text c.args.lexicon.now (claims_of c.args.axioms.now) =
    lines_written c.args.lexicon.now (claims_of c.args.axioms.now) c.new-out.result c.put_line.new.out c.put_line-2.new.out c.put_declarations.new.out
    c.put_axioms.new.out c.put_line-3.new.out c.new-out.ensures c.in_ok-put_line.ensures c.in_ok-put_line-2.ensures c.in_ok-put_declarations.ensures.text
    c.in_ok-put_axioms.ensures c.in_ok-put_line-3.ensures in
    reads_back c.args.lexicon.now (claims_of c.args.axioms.now) c.put_line-3.new.out is c.in_ok-put_declarations.ensures.lexicon
    (subst IsUtf8 c.out-5.view_is c.out-5.invariant)
