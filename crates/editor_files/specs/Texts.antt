-- Each file of the editor page by its name. tools/client --write wrote this.
use Rattle.std.specs.Prelude.{ℕ, List}
use Rattle.editor_names.specs.declared.names.EditorFile.{EditorFile}
use Rattle.editor_names.specs.declared.names.EditorFile.TheVariants.{ApiJs, AppCss, AppJs, ArticleJs, AskJs, ChangesJs, CommitJs, EditorJs, IndexHtml, LexiconJs, MapJs, MapdrawingJs, MapfactsJs, MapshapesJs, MenuJs, OpenJs, PageJs, RefusalsJs, SentenceJs, UsageJs, WatchJs, WordformJs, WordsJs}
use Rattle.editor_files.specs.ApiJs.{api_js}
use Rattle.editor_files.specs.AppCss.{app_css}
use Rattle.editor_files.specs.AppJs.{app_js}
use Rattle.editor_files.specs.ArticleJs.{article_js}
use Rattle.editor_files.specs.AskJs.{ask_js}
use Rattle.editor_files.specs.ChangesJs.{changes_js}
use Rattle.editor_files.specs.CommitJs.{commit_js}
use Rattle.editor_files.specs.EditorJs.{editor_js}
use Rattle.editor_files.specs.IndexHtml.{index_html}
use Rattle.editor_files.specs.LexiconJs.{lexicon_js}
use Rattle.editor_files.specs.MapJs.{map_js}
use Rattle.editor_files.specs.MapdrawingJs.{mapdrawing_js}
use Rattle.editor_files.specs.MapfactsJs.{mapfacts_js}
use Rattle.editor_files.specs.MapshapesJs.{mapshapes_js}
use Rattle.editor_files.specs.MenuJs.{menu_js}
use Rattle.editor_files.specs.OpenJs.{open_js}
use Rattle.editor_files.specs.PageJs.{page_js}
use Rattle.editor_files.specs.RefusalsJs.{refusals_js}
use Rattle.editor_files.specs.SentenceJs.{sentence_js}
use Rattle.editor_files.specs.UsageJs.{usage_js}
use Rattle.editor_files.specs.WatchJs.{watch_js}
use Rattle.editor_files.specs.WordformJs.{wordform_js}
use Rattle.editor_files.specs.WordsJs.{words_js}

-- the bytes of a file
abbrev pub text_of : EditorFile → List ℕ
text_of ApiJs = api_js
text_of AppCss = app_css
text_of AppJs = app_js
text_of ArticleJs = article_js
text_of AskJs = ask_js
text_of ChangesJs = changes_js
text_of CommitJs = commit_js
text_of EditorJs = editor_js
text_of IndexHtml = index_html
text_of LexiconJs = lexicon_js
text_of MapJs = map_js
text_of MapdrawingJs = mapdrawing_js
text_of MapfactsJs = mapfacts_js
text_of MapshapesJs = mapshapes_js
text_of MenuJs = menu_js
text_of OpenJs = open_js
text_of PageJs = page_js
text_of RefusalsJs = refusals_js
text_of SentenceJs = sentence_js
text_of UsageJs = usage_js
text_of WatchJs = watch_js
text_of WordformJs = wordform_js
text_of WordsJs = words_js
