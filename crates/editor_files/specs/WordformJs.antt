-- The bytes of client/wordform.js. tools/client --write wrote this.
use Rattle.std.specs.Prelude.{ℕ, List, codes}

-- the file `wordform.js`
unfoldable pub wordform_js : List ℕ
wordform_js = codes "// The form by which a word is added or gets other forms: each form is suggested from the first one, shown, and can be changed.\nimport { ask } from './api.js';\nimport { KINDS, kindOf, load, nameOf, suggested, wordOf } from './lexicon.js';\nimport { attempt, complain, field, freshId, isDone, make } from './page.js';\n\nconst INPUT = { type: 'text', dir: 'auto', spellcheck: 'false', autocapitalize: 'off', required: true };\n\n// `settings` has the word that gets other forms, or the text to begin with; `done` is called with the forms that were taken.\nexport function wordForm({ word, text }, done, cancel) {\n    const state = { word, kind: word ? word.kind : 'noun', touched: [], inputs: [], fields: make('div', {}) };\n    const submit = make('button', { type: 'submit', class: 'main' }, word ? 'Change the forms' : 'Add the word');\n    const element = make('form', { class: 'word-form', autocomplete: 'off' }, word ? null : kindChoice(state), state.fields,\n        make('div', { class: 'row' }, submit, cancel ? make('button', { type: 'button', onclick: cancel }, 'Cancel') : null));\n    element.addEventListener('submit', (event) => {\n        event.preventDefault();\n        attempt(() => send(state, done), submit);\n    });\n    showFields(state, word ? word.forms : suggested(state.kind, text || ''));\n    return { element, focus: () => given(state).focus() };\n}\n\nfunction kindChoice(state) {\n    const name = freshId('kind');\n    return make('fieldset', {}, make('legend', {}, 'Kind'), KINDS.map((it) => {\n        const choose = () => {\n            const { value } = given(state);\n            state.kind = it.kind;\n            showFields(state, suggested(it.kind, value));\n        };\n        const input = make('input', { type: 'radio', name, value: it.kind, checked: it.kind === state.kind, onchange: choose });\n        return make('label', { class: 'choice' }, input, ' ', it.one, make('small', {}, ' ' + it.example));\n    }));\n}\n\n// The field of the form by which the word is named.\nconst given = (state) => state.inputs[kindOf(state.kind).named];\n\nfunction showFields(state, values) {\n    const kind = kindOf(state.kind);\n    state.touched = kind.forms.map(() => Boolean(state.word));\n    state.inputs = values.map((value, place) => make('input', { ...INPUT, id: freshId('form'), value, oninput: () => typed(state, place) }));\n    const order = [kind.named, ...kind.forms.keys()].filter((place, at) => at === 0 || place !== kind.named);\n    state.fields.replaceChildren(...order.map((place) => (\n        field(kind.forms[place], state.inputs[place], state.touched[place] || place === kind.named ? null : 'suggested; change it where English does'))));\n}\n\nfunction typed(state, place) {\n    state.touched[place] = true;\n    state.inputs[place].removeAttribute('aria-invalid');\n    if (state.inputs[place] !== given(state)) { return; }\n    suggested(state.kind, given(state).value.trim()).forEach((form, other) => {\n        if (!state.touched[other]) { state.inputs[other].value = form; }\n    });\n}\n\nasync function send(state, done) {\n    const forms = state.inputs.map((input) => input.value.trim());\n    const change = state.word ? ask('reword', { word: nameOf(state.word), forms }) : ask('word', { kind: state.kind, forms });\n    const isSure = await isDone(change).catch((error) => {\n        point(state, error, forms);\n        throw error;\n    });\n    await load();\n    if (isSure) { return done(forms); }\n    const found = wordOf(forms[0]);\n    return complain(found && found.forms.join(' ') === forms.join(' ') ? 'A word has these forms now.' : 'No word has these forms, so the change was not done. Try again.');\n}\n\n// The field that a refusal speaks of gets the focus.\nfunction point(state, error, forms) {\n    const input = state.inputs[error.is('BadForm') ? error.reply.which : forms.indexOf(error.cause === 'refused' ? error.reply.text : '')];\n    if (input) {\n        input.setAttribute('aria-invalid', 'true');\n        input.focus();\n    }\n}\n"
