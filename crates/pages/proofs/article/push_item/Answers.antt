use Rattle.std.proofs.Common.{◌≡◌, ◌∙◌, ap, ◌++◌, codes, List, ℕ}
use Rattle.std.specs.String.{string_bytes}
use Rattle.pages.specs.Html.{escaped}
use Rattle.pages.specs.Pages.{item_of_class, answers_of}
use Rattle.pages.proofs.HtmlLemmas.{six_added}
use Rattle.pages.proofs.article.push_item.Goals as goal

pub returns : goal.returns
unfolding item_of_class
returns c =
    six_added (string_bytes c.args.page.now)
    (codes "<li class=\"") c.args.class.now (codes "\">") (escaped c.args.sentence.now.text)
    (answers_of c.args.sentence.now.status c.args.sentence.now.answers c.args.sentence.now.unknown) (codes "</li>")
    (string_bytes c.push_str.new.self) (string_bytes c.push_str-2.new.self) (string_bytes c.push_str-3.new.self)
    (string_bytes c.push_escaped.new.page) (string_bytes c.push_answers.new.page) (string_bytes c.push_str-4.new.self)
    c.in_ok-push_str.ensures.bytes c.in_ok-push_str-2.ensures.bytes c.in_ok-push_str-3.ensures.bytes
    (c.in_ok-push_escaped.ensures ∙ ap (λ text. string_bytes c.push_str-3.new.self ++ escaped text) c.as_str.ensures.value)
    c.in_ok-push_answers.ensures c.in_ok-push_str-4.ensures.bytes
