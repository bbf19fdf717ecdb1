use Rattle.std.proofs.Common.{◌≡◌, subst}
use Rattle.std.proofs.lemmas.Result.{IfOk-weaker}
use Rattle.lexicon.specs.Words.{Listed}
use Rattle.logic_terms.specs.Shown.{claims_of}
use Rattle.owl_file.specs.Written.{file_text}
use Rattle.retelling.specs.Files.{TellsFile}
use Rattle.retelling.proofs.files.file_of.Goals as goal

pub returns : goal.returns
returns c =
    let state = c.args.wiki.now.state.stored in
    let claims = claims_of c.asserted.result.now in
    IfOk-weaker c.write_owl.result _ (TellsFile state)
    (λ text is. record {
      claims = claims;
      known = c.asserted.ensures;
      told = subst (λ (words : Listed). text ≡ file_text words claims) c.lexicon.ensures is;
    })
    c.write_owl.ensures.text
