-- A whole wiki in which it was put back what an article had before a change.
use Rattle.history.specs.declared.kept.Kept.{Kept}
use Rattle.wiki_store.specs.PuttingBack as store
use Rattle.wiki_core.specs.Holding.{Holding, store_held}

-- the sessions stay
abbrev pub put_back : Holding → Kept → Holding
put_back wiki kept = record wiki {
  state = record wiki.state { stored = (store.put_back (store_held wiki) kept).state };
  interpretation = (store.put_back (store_held wiki) kept).interpretation;
}
