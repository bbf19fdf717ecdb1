-- The bytes of client/sentence.js. tools/client --write wrote this.
use Rattle.std.specs.Prelude.{ℕ, List, codes}

-- the file `sentence.js`
unfoldable pub sentence_js : List ℕ
sentence_js = codes "// One sentence of an article: its words as links, its status in words and colour, its answers, and what can be done with it.\nimport { ask } from './api.js';\nimport { isEnd, nameOf, tokensOf, wordOf } from './lexicon.js';\nimport { button, fill, freshId, make, wordLink } from './page.js';\n\nconst STATUSES = new Map([\n    ['asserted', ['asserted', 'It counts: all asserted sentences together have a model.']],\n    ['retracted', ['retracted', 'A person has taken it back, so it doesn\\'t count.']],\n    ['contradiction', ['contradiction', 'It contradicts what is asserted, so it doesn\\'t count. Retract or edit what it contradicts and reassert it, or edit it.']],\n    ['budget', ['undecided', 'The search for a contradiction was ended at its limit, so it doesn\\'t count. Reassert it after a change, or make it simpler.']],\n    ['outside', ['outside OWL', 'It can be read, but it is no axiom of OWL, so it doesn\\'t count.']],\n    ['question', ['question', 'It asks for all names that are known to be in a class.']],\n    ['question-outside', ['question outside OWL', 'It asks for no class of OWL, so it has no answer.']],\n]);\n\nconst CAUSES = new Map([\n    ['shared', 'It speaks of two things at once that only one class could hold together, as in \\u201cEvery man who owns a dog sees the dog.\\u201d'],\n    ['cycle', 'Its relations go round in a circle, or from a thing to itself, as in \\u201cEvery man sees itself.\\u201d'],\n    ['noroot', 'Nothing leads from a name to what it speaks of, as in \\u201cA man owns a dog.\\u201d'],\n    ['equality', 'It says that two things are the same where a class would have to say so, as in \\u201cEvery man is Mary.\\u201d'],\n    ['free', 'It takes up a thing again from a place where that can\\'t be seen.'],\n]);\n\nexport const statusName = (status) => (STATUSES.get(status) || [status])[0];\nexport const statusText = (status) => (STATUSES.get(status) || ['', ''])[1];\n\n// The words of a text as links to their articles.\nexport function linked(text) {\n    return tokensOf(text).map((token, place) => {\n        const word = wordOf(token);\n        const shown = word ? wordLink(nameOf(word), token) : make('bdi', {}, token);\n        return [place === 0 || isEnd(token) ? '' : ' ', shown];\n    });\n}\n\nexport function answersOf(sentence) {\n    if (!sentence.answers) { return null; }\n    const list = (names, kind) => names.map((name) => make('li', { class: kind }, wordLink(name), kind ? make('small', {}, ' not known') : null));\n    const none = sentence.answers.length + sentence.unknown.length === 0;\n    return make('ul', { class: 'answers', 'aria-label': 'Answers' },\n        none ? make('li', { class: 'quiet' }, 'no name is known') : [list(sentence.answers, null), list(sentence.unknown, 'unknown')]);\n}\n\n// The actions are called with the row, whose place is looked up at that moment.\nexport function row(sentence, actions) {\n    const panelId = freshId('panel');\n    const toggle = make('button', { type: 'button', class: 'more', 'aria-expanded': 'false', 'aria-controls': panelId, 'aria-describedby': panelId + '-text', title: 'What can be done with this sentence' },\n        make('span', { 'aria-hidden': 'true' }, '\\u22ef'), make('span', { class: 'unseen' }, 'Actions'));\n    const panel = make('div', { id: panelId, class: 'actions', hidden: true });\n    const element = make('li', { class: 'sentence', tabindex: '-1', 'data-status': sentence.status },\n        make('div', { class: 'line' }, make('p', { id: panelId + '-text', class: 'text' }, linked(sentence.text)), make('span', { class: 'status' }, statusName(sentence.status)), toggle),\n        make('div', { class: 'answer-place' }, answersOf(sentence)), panel);\n    toggle.addEventListener('click', () => {\n        panel.hidden = !panel.hidden;\n        toggle.setAttribute('aria-expanded', String(!panel.hidden));\n        fillPanel(panel, element, sentence, actions);\n        (panel.hidden ? toggle : panel.querySelector('button')).focus();\n    });\n    panel.addEventListener('keydown', (event) => {\n        if (event.key === 'Escape') { toggle.click(); }\n    });\n    return element;\n}\n\nexport function setAnswers(element, sentence) {\n    const place = element.querySelector('.answer-place');\n    if (!place.contains(document.activeElement)) { fill(place, answersOf(sentence)); }\n}\n\nconst TAKEN_UP = new Set(['retracted', 'contradiction', 'budget']);\n\nfunction fillPanel(panel, element, sentence, actions) {\n    const details = make('div', { class: 'details' }, make('p', {}, statusText(sentence.status), ' ', CAUSES.get(sentence.cause) || ''));\n    fill(panel, make('div', { class: 'row' },\n        button('Edit', () => actions.edit(element)),\n        button('Insert before', () => actions.insert(element)),\n        sentence.status === 'asserted' ? button('Retract', () => actions.retract(element)) : null,\n        TAKEN_UP.has(sentence.status) ? button('Reassert', () => actions.reassert(element)) : null,\n        button('Remove', () => actions.remove(element)),\n        button('Details', () => showDetails(details, element, sentence, actions))), details);\n}\n\nasync function showDetails(details, element, sentence, actions) {\n    const reply = await actions.axioms(element);\n    if (reply === null) { return; }\n    const code = await ask('parse', { text: sentence.text });\n    const lines = (texts) => texts.map((text) => make('code', {}, make('bdi', {}, text)));\n    fill(details,\n        make('p', {}, statusText(sentence.status), ' ', CAUSES.get(reply.cause || sentence.cause) || ''),\n        reply.axioms && reply.axioms.length > 0 ? make('div', {}, make('h2', {}, reply.axioms.length === 1 ? 'Axiom' : 'Axioms'), lines(reply.axioms)) : null,\n        reply.axioms && reply.axioms.length === 0 && !reply.cause ? make('p', {}, 'It says nothing: it has no axioms.') : null,\n        reply.class ? make('div', {}, make('h2', {}, 'Class that is asked for'), lines([reply.class])) : null,\n        make('div', {}, make('h2', {}, 'Code of its reading'), lines([code.code.join(' ')])));\n}\n"
