-- The bytes of client/usage.js. tools/client --write wrote this.
use Rattle.std.specs.Prelude.{ℕ, List, codes}

-- the file `usage.js`
unfoldable pub usage_js : List ℕ
usage_js = codes "// The word of an article: its forms, what can be done with it, and which sentences hold it.\nimport { ask, unless } from './api.js';\nimport { allWords, kindOf, load, nameOf, tokensOf, wordOf } from './lexicon.js';\nimport { address, button, complain, count, fill, isDone, make, placeLink, say, visit } from './page.js';\nimport { wordForm } from './wordform.js';\n\nexport function wordPanel(word) {\n    const kind = kindOf(word.kind);\n    const forms = kind.forms.map((label, place) => [place > 0 ? ', ' : '', make('bdi', {}, word.forms[place]), kind.forms.length > 1 ? ` (${label})` : '']);\n    const below = make('div', {});\n    return make('section', { class: 'word-panel', 'aria-label': 'The word' }, make('p', {}, kind.one + ': ', forms),\n        make('div', { class: 'row' },\n            button('Other forms\\u2026', () => showReword(word, below)),\n            button('Remove the word\\u2026', () => showRemove(word, below)),\n            button('Sentences with it\\u2026', () => showUsage(word, below))), below);\n}\n\nconst panel = (below, ...children) => fill(below, make('div', { class: 'panel' }, ...children));\nconst closing = (below) => make('button', { type: 'button', onclick: () => fill(below) }, 'Close');\n\nfunction showReword(word, below) {\n    const form = wordForm({ word }, (forms) => {\n        say('The word has other forms now.');\n        visit(address(forms[kindOf(word.kind).named]));\n    }, () => fill(below));\n    panel(below, make('p', { class: 'quiet' }, 'A form that a sentence uses can\\'t be changed; the others can.'), form.element);\n    form.focus();\n}\n\nfunction showRemove(word, below) {\n    const sure = button('Remove it', () => remove(word), { class: 'main' });\n    panel(below, make('p', {}, 'A word can be removed while its article is empty and no sentence uses it. It can be added again later.'),\n        make('div', { class: 'row' }, sure, closing(below)));\n    sure.focus();\n}\n\nasync function remove(word) {\n    const done = await isDone(ask('unword', { word: nameOf(word) }));\n    await load();\n    if (done) {\n        say('Removed the word ', make('bdi', {}, nameOf(word)), '.');\n        visit('#/');\n    } else if (wordOf(nameOf(word))) {\n        complain('The word is still there, so it was not removed. Try again.');\n    }\n}\n\nfunction showUsage(word, below) {\n    const start = button('Read them', () => readAll(word, below), { class: 'main' });\n    panel(below, make('p', {}, `To find the sentences with this word, all ${count(allWords().length, 'article')} are read, one after the other. `\n        + 'Their questions are answered on the way, so this can take a while, and others wait for the wiki meanwhile.'),\n    make('div', { class: 'row' }, start, closing(below)));\n    start.focus();\n}\n\nasync function readAll(word, below) {\n    const names = allWords().map(nameOf);\n    const state = { isStopped: false, found: 0 };\n    const progress = make('progress', { max: names.length, value: 0, 'aria-label': 'Articles read' });\n    const told = make('p', { role: 'status' }, 'Reading\\u2026');\n    const list = make('ul', {});\n    const stop = make('button', { type: 'button', onclick: () => { state.isStopped = true; } }, 'Stop');\n    const end = make('div', { class: 'row' }, stop);\n    panel(below, told, progress, list, end);\n    stop.focus();\n    try {\n        for (const name of names) {\n            if (state.isStopped || !below.isConnected) { break; }\n            await readOne(name, word, list, state);\n            progress.value += 1;\n        }\n    } finally {\n        progress.remove();\n        told.textContent = `${count(state.found, 'sentence')} with this word in ${count(progress.value, 'article')}` + (progress.value < names.length ? '; stopped before the end.' : '.');\n        fill(end, closing(below));\n    }\n}\n\n// A word that was removed meanwhile has no article any more.\nasync function readOne(name, word, list, state) {\n    const { sentences } = await ask('read', { article: name }).catch(unless('NoWord', { sentences: [] }));\n    sentences.forEach((sentence, at) => {\n        if (!tokensOf(sentence.text).some((token) => word.forms.includes(token))) { return; }\n        state.found += 1;\n        list.append(make('li', {}, make('a', { href: address(name, at) }, make('bdi', {}, sentence.text)), ' ', make('small', {}, placeLink(name, at))));\n    });\n}\n"
