-- The bytes of client/app.js. tools/client --write wrote this.
use Rattle.std.specs.Prelude.{ℕ, List, codes}

-- the file `app.js`
unfoldable pub app_js : List ℕ
app_js = codes "// The start: which page is shown, by what stands behind the # of the address.\nimport { stopWaiting, waited } from './api.js';\nimport { articleView } from './article.js';\nimport { askView } from './ask.js';\nimport { mapView } from './map.js';\nimport { setUpOpen } from './open.js';\nimport { attempt, clearNotices, explainBy, fill, make } from './page.js';\nimport { explain } from './refusals.js';\nimport { wordsView } from './words.js';\n\nconst [TOLD_AFTER, STOPPABLE_AFTER] = [1000, 5000];\n\nlet [view, lastArticle] = [null, ''];\n\nfunction viewOf(hash) {\n    const [page, name, place] = hash.split('/').slice(1);\n    if (page === 'article' && name) {\n        lastArticle = decodeURIComponent(name);\n        return articleView(lastArticle, /^\\d+$/.test(place || '') ? Number(place) : null);\n    }\n    return page === 'ask' ? askView(lastArticle) : (page === 'map' ? mapView() : wordsView());\n}\n\nfunction open() {\n    const main = document.getElementById('main');\n    if (view) {\n        view.close();\n        clearNotices();\n        main.focus({ preventScroll: true });\n        window.scrollTo(0, 0);\n    }\n    try {\n        view = viewOf(location.hash);\n    } catch (error) {\n        view = wordsView();\n    }\n    document.title = view.title + ' \\u00b7 AceWiki';\n    fill(main, view.element);\n    document.querySelectorAll('nav a').forEach((link) => link.setAttribute('aria-current', link.hash === (location.hash || '#/') ? 'page' : 'false'));\n}\n\n// While an answer is waited for long, the page says so, and the waiting can be ended.\nfunction showWaiting() {\n    const shown = document.getElementById('waiting');\n    const stop = make('button', { type: 'button', onclick: stopWaiting }, 'Stop waiting');\n    fill(shown, 'Waiting for the wiki\\u2026', stop);\n    setInterval(() => {\n        shown.hidden = waited() < TOLD_AFTER;\n        stop.hidden = waited() < STOPPABLE_AFTER;\n    }, 250);\n}\n\n// Shown inside another page, where clicks may be meant for that page, the editor does nothing.\nif (window.top === window.self) {\n    explainBy(explain);\n    setUpOpen();\n    showWaiting();\n    document.getElementById('skip').addEventListener('click', () => document.getElementById('main').focus());\n    window.addEventListener('hashchange', () => attempt(open));\n    open();\n} else {\n    fill(document.body, make('p', {}, 'The editor doesn\\'t work inside another page. ', make('a', { href: location.href, target: '_blank', rel: 'noopener' }, 'Open it on its own'), '.'));\n}\n"
