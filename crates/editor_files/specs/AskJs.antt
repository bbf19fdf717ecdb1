-- The bytes of client/ask.js. tools/client --write wrote this.
use Rattle.std.specs.Prelude.{ℕ, List, codes}

-- the file `ask.js`
unfoldable pub ask_js : List ℕ
ask_js = codes "// The page on which a question is asked: it is added to an article as a sentence, answered, and can be removed again.\nimport { ask } from './api.js';\nimport { change } from './changes.js';\nimport { append } from './commit.js';\nimport { Editor } from './editor.js';\nimport { load, nameOf, wordOf } from './lexicon.js';\nimport { attempt, button, complain, field, fill, make, placeLink, quoted, say, visit } from './page.js';\nimport { answersOf, linked, statusName, statusText } from './sentence.js';\n\nconst FIELD = { id: 'ask-article', type: 'text', dir: 'auto', spellcheck: 'false', autocapitalize: 'off', autocomplete: 'off' };\n\nexport function askView(name) {\n    const article = make('input', { ...FIELD, value: name });\n    const answers = make('div', { class: 'answered', 'aria-live': 'polite' });\n    const place = make('div', {});\n    const element = make('div', { class: 'ask-page' }, make('h1', {}, 'Ask'),\n        make('p', {}, 'The wiki answers questions that stand in an article. A question that you ask here is added to an article as a sentence, where everybody sees it. You can remove it again when you have the answer.'),\n        answers, field('Article for the question', article, 'left empty: that of the first word of the question that has one'), place);\n    attempt(async () => {\n        await load();\n        const editor = new Editor({\n            title: 'A question', tokens: [], label: 'Ask', only: '?',\n            commit: (tokens) => send(editor, article, answers, tokens),\n            cancel: () => visit('#/'),\n        });\n        fill(place, editor.element);\n        editor.focus();\n    });\n    return { element, title: 'Ask', close: () => {} };\n}\n\nasync function send(editor, article, answers, tokens) {\n    const typed = article.value.trim();\n    const word = typed === '' ? tokens.map(wordOf).find((it) => it) : wordOf(typed);\n    if (!word) {\n        complain(typed === '' ? 'The question has no word of the wiki, so choose an article for it.' : ['No word has the form ', quoted(typed), '. Choose another article.']);\n        article.focus();\n        return;\n    }\n    const name = nameOf(word);\n    const shown = await ask('read', { article: name });\n    await append({\n        article: name, shown, tokens,\n        offer: (children, label, action) => editor.offer(children, label, action),\n        moved: () => {},\n        done: (now) => {\n            editor.clear();\n            showAnswer(answers, name, now, editor);\n        },\n    });\n}\n\nfunction showAnswer(answers, name, now, editor) {\n    const at = now.sentences.length - 1;\n    const sentence = now.sentences[at];\n    if (!sentence) { return; }\n    const close = () => {\n        fill(answers);\n        editor.focus();\n    };\n    const remove = button('Remove the question again', async () => {\n        const result = await change(name, now, at, 'remove', {});\n        if (result.done) {\n            close();\n            say('The question was removed again.');\n        }\n    });\n    fill(answers, make('section', { class: 'panel', 'aria-label': 'The answer' },\n        make('p', { class: 'question' }, linked(sentence.text)),\n        answersOf(sentence) || make('p', {}, make('strong', {}, statusName(sentence.status)), ': ', statusText(sentence.status)),\n        make('p', { class: 'quiet' }, 'The question was added as ', placeLink(name, at), '.'),\n        make('div', { class: 'row' }, remove, button('Keep it', close))));\n}\n"
