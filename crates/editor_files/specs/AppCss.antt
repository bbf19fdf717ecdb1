-- The bytes of client/app.css. tools/client --write wrote this.
use Rattle.std.specs.Prelude.{ℕ, List, codes}

-- the file `app.css`
unfoldable pub app_css : List ℕ
app_css = codes "/* One plain sheet for all pages: light and dark, wide and narrow. Nothing is told by colour alone. */\n\n:root {\n    color-scheme: light dark;\n    --paper: #ffffff;\n    --ground: #f5f6f8;\n    --ink: #1c2024;\n    --quiet: #5a646e;\n    --line: #d5dae0;\n    --edge: #7a8590;\n    --link: #0b57a8;\n    --main: #0b57a8;\n    --on-main: #ffffff;\n    --marked: #dbe9fa;\n    --good: #1a6b3c;\n    --bad: #b3261e;\n    --bad-ground: #fdecea;\n    --asks: #6a3fa0;\n    --warn: #8a5a00;\n    --fresh: #fff6d6;\n}\n\n@media (prefers-color-scheme: dark) {\n    :root {\n        --paper: #16191d;\n        --ground: #1e2328;\n        --ink: #e4e7ea;\n        --quiet: #a0a9b2;\n        --line: #39424b;\n    --edge: #78838e;\n        --link: #86b9f2;\n        --main: #86b9f2;\n        --on-main: #10151a;\n        --marked: #25405f;\n        --good: #6fcf97;\n        --bad: #ff8a80;\n        --bad-ground: #3a1f1e;\n        --asks: #c3a6f0;\n        --warn: #e5b567;\n        --fresh: #3a3417;\n    }\n}\n\n*, *::before, *::after { box-sizing: border-box; }\n[hidden] { display: none !important; }\n\nbody { margin: 0; background: var(--paper); color: var(--ink); font: 16px/1.5 system-ui, \"Segoe UI\", \"Liberation Sans\", Arial, sans-serif; }\na { color: var(--link); text-decoration: none; }\na:hover, a:focus-visible { text-decoration: underline; }\n:focus-visible { outline: 2px solid var(--main); outline-offset: 2px; }\nmain { max-width: 74rem; margin: 0 auto; padding: 1rem 1.25rem 3rem; }\nmain:focus, li:focus { outline: none; }\nh1 { margin: 0.25rem 0 0.75rem; font-size: 1.6rem; line-height: 1.25; overflow-wrap: anywhere; }\nh2 { margin: 0 0 0.5rem; font-size: 1.05rem; }\n.details h2 { margin: 0.5rem 0 0.25rem; font-size: 0.9rem; }\np { margin: 0 0 0.6rem; }\nul, ol { margin: 0; padding: 0; list-style: none; }\nsmall { color: var(--quiet); font-size: 0.85em; font-weight: normal; }\nbdi { overflow-wrap: anywhere; }\n.quiet { color: var(--quiet); font-size: 0.9rem; }\n.unseen { position: absolute; width: 1px; height: 1px; overflow: hidden; clip-path: inset(50%); white-space: nowrap; }\n.skip { position: absolute; left: 0.5rem; top: -4rem; z-index: 9; }\n.skip:focus { top: 0.5rem; }\n\nbutton, input, select { font: inherit; color: inherit; }\nbutton { padding: 0.3rem 0.8rem; border: 1px solid var(--edge); border-radius: 6px; background: var(--paper); cursor: pointer; }\nbutton:hover { border-color: var(--main); }\nbutton.main, button.lit { background: var(--main); border-color: var(--main); color: var(--on-main); }\nbutton[aria-disabled=\"true\"] { opacity: 0.5; cursor: wait; }\n::placeholder { color: var(--quiet); opacity: 1; }\ninput:not([type=\"radio\"]), select { width: 100%; padding: 0.35rem 0.6rem; border: 1px solid var(--edge); border-radius: 6px; background: var(--paper); }\ninput[aria-invalid=\"true\"] { border-color: var(--bad); color: var(--bad); }\n.row { display: flex; flex-wrap: wrap; gap: 0.5rem; align-items: center; }\n.field { margin-bottom: 0.7rem; max-width: 28rem; }\n.field label::first-letter { text-transform: uppercase; }\n.field label { display: block; font-size: 0.9rem; font-weight: 600; margin-bottom: 0.15rem; }\n.panel { padding: 1rem; border: 1px solid var(--line); border-radius: 8px; background: var(--ground); }\nfieldset { margin: 0 0 0.8rem; padding: 0; border: 0; }\nlegend { padding: 0; font-size: 0.9rem; font-weight: 600; }\n.choice { display: block; padding: 0.1rem 0; }\n\n.top { display: flex; flex-wrap: wrap; gap: 0.5rem 1.5rem; align-items: center; padding: 0.6rem 1.25rem; border-bottom: 1px solid var(--line); background: var(--ground); }\n.home { font-weight: 700; color: var(--ink); }\n.top nav { display: flex; gap: 0.25rem; }\n.top nav a { padding: 0.25rem 0.7rem; border-radius: 6px; }\n.top nav a[aria-current=\"page\"] { background: var(--marked); color: var(--ink); }\n.open { position: relative; margin-left: auto; width: 18rem; max-width: 100%; }\n.open label { position: absolute; width: 1px; height: 1px; overflow: hidden; clip-path: inset(50%); }\n\n.waiting { position: fixed; left: 50%; top: 0.6rem; z-index: 8; transform: translateX(-50%); display: flex; gap: 0.8rem; align-items: center; padding: 0.5rem 1rem; border: 1px solid var(--line); border-radius: 8px; background: var(--paper); box-shadow: 0 4px 14px rgba(0, 0, 0, 0.25); }\n.notices { max-width: 74rem; margin: 0 auto; padding: 0 1.25rem; }\n.notice { display: flex; gap: 0.5rem; justify-content: space-between; align-items: start; margin-top: 0.7rem; padding: 0.5rem 0.8rem; border: 1px solid var(--line); border-left: 4px solid var(--main); border-radius: 6px; background: var(--ground); }\n.notice.bad { border-left-color: var(--bad); background: var(--bad-ground); }\n.notice .close { padding: 0 0.5rem; border: 0; background: none; }\n.notice > div { overflow-wrap: anywhere; }\n.changed { margin: 0.3rem 0; }\n\n.words-page { display: grid; grid-template-columns: minmax(0, 1fr) 20rem; gap: 2rem; align-items: start; }\n.words-page > .panel { position: sticky; top: 1rem; }\n.kind { margin-bottom: 1.2rem; }\n.kind ul { columns: 9.5rem; column-gap: 1.25rem; }\n.kind h2 { padding-bottom: 0.2rem; border-bottom: 1px solid var(--line); }\n.kind li { padding: 0.05rem 0; }\n\n.word-panel { margin-bottom: 1rem; color: var(--quiet); }\n.word-panel .panel { margin-top: 0.7rem; color: var(--ink); }\n.word-panel progress { width: 100%; accent-color: var(--main); }\n\n.sentences { counter-reset: sentence; border-top: 1px solid var(--line); }\n.sentences.none::before { content: \"No sentences yet.\"; display: block; padding: 0.6rem 0; color: var(--quiet); }\n.sentence { counter-increment: sentence; padding: 0.35rem 0.25rem 0.35rem 0.6rem; border-bottom: 1px solid var(--line); border-left: 4px solid var(--good); content-visibility: auto; contain-intrinsic-size: auto 39px; }\n.line { display: flex; gap: 0.75rem; align-items: baseline; }\n.line::before { content: counter(sentence); min-width: 1.6rem; color: var(--quiet); font-size: 0.85rem; text-align: right; }\n.text { flex: 1; margin: 0; min-width: 0; }\n.status { color: var(--good); font-size: 0.85rem; white-space: nowrap; }\n.more { padding: 0 0.5rem; border-color: transparent; background: none; }\n.sentence[data-status=\"retracted\"] { border-left-color: var(--line); }\n.sentence[data-status=\"retracted\"] .text { text-decoration: line-through; color: var(--quiet); }\n.sentence[data-status=\"retracted\"] .status { color: var(--quiet); }\n.sentence[data-status=\"contradiction\"], .sentence[data-status=\"budget\"] { border-left-color: var(--bad); background: var(--bad-ground); }\n.sentence[data-status=\"contradiction\"] .status, .sentence[data-status=\"budget\"] .status { color: var(--bad); font-weight: 600; }\n.sentence[data-status=\"outside\"] { border-left-color: var(--warn); }\n.sentence[data-status=\"outside\"] .status { color: var(--warn); }\n.sentence[data-status^=\"question\"] { border-left-color: var(--asks); }\n.sentence[data-status^=\"question\"] .status { color: var(--asks); }\n.sentence.pointed, .sentence.edited { box-shadow: inset 0 0 0 2px var(--main); }\n.sentence.fresh { background: var(--fresh); }\n.answers { display: flex; flex-wrap: wrap; gap: 0.1rem 0.9rem; padding: 0.1rem 0 0.2rem 2.4rem; }\n.answers li.unknown a { text-decoration: underline dotted; }\n.panel .answers { padding-left: 0; margin-bottom: 0.6rem; font-size: 1.1rem; }\n.actions { padding: 0.5rem 0 0.4rem 2.4rem; }\n.details { margin-top: 0.5rem; font-size: 0.9rem; }\n.details code { display: block; font-family: ui-monospace, \"Liberation Mono\", monospace; font-size: 0.85rem; overflow-wrap: anywhere; }\n.article-foot { margin-top: 1rem; }\n\n.dock { position: sticky; bottom: 0; margin: 1rem -0.5rem 0; z-index: 4; }\n.editor { padding: 0.7rem 0.9rem; border: 1px solid var(--line); border-radius: 8px; background: var(--ground); }\n.dock .editor { border-radius: 8px 8px 0 0; box-shadow: 0 -4px 16px rgba(0, 0, 0, 0.15); }\n.editor-head { display: flex; flex-wrap: wrap; gap: 0 1rem; align-items: baseline; }\n.typed-row { display: flex; flex-wrap: wrap; gap: 0.4rem; align-items: center; }\n.typed { flex: 1 1 20rem; display: flex; flex-wrap: wrap; gap: 0 0.4rem; align-items: center; min-height: 2.4rem; padding: 0.1rem 0.6rem; border: 1px solid var(--edge); border-radius: 6px; background: var(--paper); cursor: text; }\n.typed:focus-within { border-color: var(--main); outline: 1px solid var(--main); }\n.typed .next { flex: 1 1 7rem; width: auto; min-width: 5rem; padding: 0.2rem 0; border: 0; background: none; }\n.typed .next:focus-visible { outline: none; }\n.end { min-width: 2.2rem; padding: 0.3rem 0.4rem; font-weight: 700; }\n.end:not(.lit), .editor .main:not(.lit) { background: var(--paper); border-color: var(--edge); color: var(--quiet); }\n.note { min-height: 1.5rem; color: var(--bad); font-size: 0.9rem; }\n.offer { margin: 0.3rem 0; padding: 0.6rem 0.8rem; border: 1px solid var(--warn); border-radius: 6px; }\n.menu { display: grid; grid-template-columns: repeat(6, minmax(0, 1fr)); gap: 0.6rem; height: 13.5rem; overflow-y: auto; contain: strict; }\n.group-name { position: sticky; top: 0; padding-bottom: 0.1rem; border-bottom: 1px solid var(--line); background: var(--ground); color: var(--quiet); font-size: 0.8rem; font-weight: 600; }\n.group.empty .group-name { font-weight: normal; }\n.menu [role=\"option\"] { padding: 0.1rem 0.35rem; border-radius: 4px; color: var(--link); cursor: pointer; }\n.menu [role=\"option\"]:hover, .menu [aria-selected=\"true\"] { background: var(--marked); color: var(--ink); }\n.menu [aria-selected=\"true\"] { outline: 1px solid var(--main); outline-offset: -1px; }\n\n.ask-page .panel { margin-bottom: 1rem; }\n.question { font-size: 1.1rem; font-weight: 600; }\n\n.map-tools { margin-bottom: 0.7rem; }\n.map-tools select, .map-tools input { width: auto; }\n.map-frame { max-height: 75vh; overflow: auto; border: 1px solid var(--line); border-radius: 8px; background: var(--ground); }\n.map-frame text { fill: var(--ink); font: 13px system-ui, \"Liberation Sans\", Arial, sans-serif; }\n.map-frame .box { fill: var(--paper); stroke: var(--line); }\n.map-frame .class-name { font-weight: 700; }\n.map-frame .chip { fill: var(--marked); }\n.map-frame .chip.also { fill: none; stroke: var(--line); stroke-dasharray: 3 2; }\n.map-frame .isa { fill: none; stroke: var(--quiet); stroke-width: 1.5; }\n.map-frame .isa-arrow { fill: var(--quiet); }\n.map-frame .relation { fill: none; stroke: var(--asks); stroke-width: 1.2; }\n.map-frame .relation-arrow { fill: var(--asks); }\n.map-frame .relation-name { fill: var(--asks); font-size: 11px; text-anchor: middle; paint-order: stroke; stroke: var(--ground); stroke-width: 3px; }\n.map-frame .edge { display: none; opacity: 0.55; pointer-events: none; }\n.map-frame .edge.shown, .map-frame .edge.on { display: inline; }\n.map-frame .edge.on { opacity: 1; }\n.map-frame .edge:not(.on) .relation-name { display: none; }\n.map-frame a:hover .chip, .map-frame a:focus .chip, .map-frame a:hover .box, .map-frame a:focus .box { stroke: var(--main); stroke-width: 2; }\n\n@media (max-width: 46rem) {\n    .words-page { grid-template-columns: minmax(0, 1fr); }\n    .words-page > .panel { position: static; }\n    .top { padding: 0.5rem 0.8rem; }\n    .open { width: 100%; }\n    main, .notices { padding-left: 0.8rem; padding-right: 0.8rem; }\n    .line { flex-wrap: wrap; gap: 0 0.6rem; }\n    .text { flex: 1 1 70%; }\n    .line .status { margin-left: 2.2rem; }\n    .line .more { margin-left: auto; }\n    .menu { grid-template-columns: repeat(2, minmax(0, 1fr)); height: 30vh; }\n    .group.empty, .keys { display: none; }\n}\n\n@media (prefers-reduced-motion: no-preference) {\n    .sentence.pointed { transition: box-shadow 0.3s; }\n}\n"
