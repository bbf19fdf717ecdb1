-- The bytes of client/words.js. tools/client --write wrote this.
use Rattle.std.specs.Prelude.{ℕ, List, codes}

-- the file `words.js`
unfoldable pub words_js : List ℕ
words_js = codes "// The page of all words: by kind, with a filter, and a form that adds one.\nimport { KINDS, allWords, fitting, load, nameOf, wordOf } from './lexicon.js';\nimport { attempt, count, field, fill, make, say, wordLink } from './page.js';\nimport { wordForm } from './wordform.js';\n\nconst [SHOWN_OF_A_KIND, MORE_OF_A_KIND] = [100, 500];\n\nexport function wordsView() {\n    const limits = new Map();\n    const total = make('p', { class: 'quiet', role: 'status' });\n    const lists = make('div', { class: 'kinds' });\n    const show = () => showLists(lists, total, filter.value, limits);\n    const filter = make('input', { id: 'filter', type: 'search', dir: 'auto', spellcheck: 'false', autocapitalize: 'off', autocomplete: 'off', oninput: () => { limits.clear(); show(); } });\n    const adding = make('section', { class: 'panel', 'aria-label': 'Add a word' });\n    const renew = () => {\n        const form = wordForm({}, (forms) => {\n            show();\n            renew().focus();\n            say('Added ', wordLink(nameOf(wordOf(forms[0]))), '. Its article is empty.');\n        });\n        fill(adding, make('h2', {}, 'Add a word'), form.element);\n        return form;\n    };\n    renew();\n    attempt(() => load().then(show));\n    const element = make('div', { class: 'words-page' },\n        make('section', { 'aria-label': 'All words' }, make('h1', {}, 'Words'), field('Filter', filter), total, lists), adding);\n    return { element, title: 'Words', close: () => {} };\n}\n\nfunction showLists(lists, total, typed, limits) {\n    const fits = fitting(typed);\n    total.textContent = (fits === allWords() ? '' : `${fits.length.toLocaleString('en')} of `) + count(allWords().length, 'word');\n    fill(lists, KINDS.map((it) => kindList(it, fits.filter((word) => word.kind === it.kind), limits, () => showLists(lists, total, typed, limits))));\n}\n\n// The focus goes to the first word that is new.\nfunction kindList({ kind, title }, words, limits, again) {\n    const limit = limits.get(kind) || SHOWN_OF_A_KIND;\n    const left = words.length - limit;\n    const more = () => {\n        again(limits.set(kind, limit + MORE_OF_A_KIND));\n        document.querySelectorAll(`.kind.${kind} a`)[limit].focus();\n    };\n    return make('section', { class: 'kind ' + kind }, make('h2', {}, title, make('small', {}, ' ' + String(words.length))),\n        make('ul', {}, words.slice(0, limit).map((word) => make('li', {}, wordLink(nameOf(word))))),\n        left > 0 ? make('button', { type: 'button', onclick: more }, `Show ${Math.min(left, MORE_OF_A_KIND)} more of ${left}`) : null);\n}\n"
