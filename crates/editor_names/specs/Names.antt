-- The names of the files of the editor page. tools/client --write wrote this.
use Rattle.std.specs.Prelude.{ℕ, List, [], ◌∷◌, codes, find, Option}
use Rattle.std.specs.Str.{bytes_eq}
use Rattle.editor_names.specs.declared.names.EditorFile.{EditorFile}
use Rattle.editor_names.specs.declared.names.EditorFile.TheVariants.{ApiJs, AppCss, AppJs, ArticleJs, AskJs, ChangesJs, CommitJs, EditorJs, IndexHtml, LexiconJs, MapJs, MapdrawingJs, MapfactsJs, MapshapesJs, MenuJs, OpenJs, PageJs, RefusalsJs, SentenceJs, UsageJs, WatchJs, WordformJs, WordsJs}

-- the name of a file, behind `/editor/` in its path
abbrev pub name_of : EditorFile → List ℕ
name_of ApiJs = codes "api.js"
name_of AppCss = codes "app.css"
name_of AppJs = codes "app.js"
name_of ArticleJs = codes "article.js"
name_of AskJs = codes "ask.js"
name_of ChangesJs = codes "changes.js"
name_of CommitJs = codes "commit.js"
name_of EditorJs = codes "editor.js"
name_of IndexHtml = codes "index.html"
name_of LexiconJs = codes "lexicon.js"
name_of MapJs = codes "map.js"
name_of MapdrawingJs = codes "mapdrawing.js"
name_of MapfactsJs = codes "mapfacts.js"
name_of MapshapesJs = codes "mapshapes.js"
name_of MenuJs = codes "menu.js"
name_of OpenJs = codes "open.js"
name_of PageJs = codes "page.js"
name_of RefusalsJs = codes "refusals.js"
name_of SentenceJs = codes "sentence.js"
name_of UsageJs = codes "usage.js"
name_of WatchJs = codes "watch.js"
name_of WordformJs = codes "wordform.js"
name_of WordsJs = codes "words.js"

-- what a file is, by the ending of its name
abbrev pub content_type : EditorFile → List ℕ
content_type ApiJs = codes "text/javascript; charset=utf-8"
content_type AppCss = codes "text/css; charset=utf-8"
content_type AppJs = codes "text/javascript; charset=utf-8"
content_type ArticleJs = codes "text/javascript; charset=utf-8"
content_type AskJs = codes "text/javascript; charset=utf-8"
content_type ChangesJs = codes "text/javascript; charset=utf-8"
content_type CommitJs = codes "text/javascript; charset=utf-8"
content_type EditorJs = codes "text/javascript; charset=utf-8"
content_type IndexHtml = codes "text/html; charset=utf-8"
content_type LexiconJs = codes "text/javascript; charset=utf-8"
content_type MapJs = codes "text/javascript; charset=utf-8"
content_type MapdrawingJs = codes "text/javascript; charset=utf-8"
content_type MapfactsJs = codes "text/javascript; charset=utf-8"
content_type MapshapesJs = codes "text/javascript; charset=utf-8"
content_type MenuJs = codes "text/javascript; charset=utf-8"
content_type OpenJs = codes "text/javascript; charset=utf-8"
content_type PageJs = codes "text/javascript; charset=utf-8"
content_type RefusalsJs = codes "text/javascript; charset=utf-8"
content_type SentenceJs = codes "text/javascript; charset=utf-8"
content_type UsageJs = codes "text/javascript; charset=utf-8"
content_type WatchJs = codes "text/javascript; charset=utf-8"
content_type WordformJs = codes "text/javascript; charset=utf-8"
content_type WordsJs = codes "text/javascript; charset=utf-8"

-- all files
abbrev pub files : List EditorFile
files =
    ApiJs ∷
    AppCss ∷
    AppJs ∷
    ArticleJs ∷
    AskJs ∷
    ChangesJs ∷
    CommitJs ∷
    EditorJs ∷
    IndexHtml ∷
    LexiconJs ∷
    MapJs ∷
    MapdrawingJs ∷
    MapfactsJs ∷
    MapshapesJs ∷
    MenuJs ∷
    OpenJs ∷
    PageJs ∷
    RefusalsJs ∷
    SentenceJs ∷
    UsageJs ∷
    WatchJs ∷
    WordformJs ∷
    WordsJs ∷
    []

-- the file that has this name
unfoldable pub file_named : List ℕ → Option EditorFile
file_named name = find (λ file. bytes_eq name (name_of file)) files
