-- The bytes of client/editor.js. tools/client --write wrote this.
use Rattle.std.specs.Prelude.{ℕ, List, codes}

-- the file `editor.js`
unfoldable pub editor_js : List ℕ
editor_js = codes "// The editor: a sentence is typed token by token from menus, which come from `parse` of what is typed.\nimport { ask } from './api.js';\nimport { isEnd, textOf, tokensOf, wordOf } from './lexicon.js';\nimport { Menu } from './menu.js';\nimport { attempt, button, fill, freshId, make, quoted } from './page.js';\nimport { wordForm } from './wordform.js';\n\nconst [MOST_TOKENS, LONGEST_INPUT] = [40, 4000];\nconst FIELD = { type: 'text', class: 'next', dir: 'auto', spellcheck: 'false', autocapitalize: 'off', autocomplete: 'off', maxlength: LONGEST_INPUT,\n    role: 'combobox', 'aria-label': 'Next word', 'aria-expanded': 'true', 'aria-autocomplete': 'list' };\n\nexport class Editor {\n    // `settings`: title, tokens, label of the button, `commit` with the tokens, `cancel`, and `only`, the mark it has to end with.\n    constructor(settings) {\n        this.settings = settings;\n        this.tokens = settings.tokens.slice();\n        this.state = { turn: 0, isCurrent: false, isWhole: false, isRunning: false, isPressed: false };\n        this.menu = new Menu((token) => this.take(token), (element) => this.input.setAttribute('aria-activedescendant', element ? element.id : ''));\n        this.typed = make('bdi', { id: freshId('typed'), class: 'typed-text' });\n        this.input = make('input', { ...FIELD, 'aria-controls': this.menu.id, 'aria-describedby': this.typed.id });\n        this.note = make('div', { class: 'note', role: 'status' });\n        this.extra = make('div', { class: 'extra' });\n        this.ends = [['.', 'Full stop'], ['?', 'Question mark']].map(([mark, label]) => (\n            button(mark, () => this.enter(this.input.value + ' ' + mark), { class: 'end', 'aria-label': label })));\n        this.done = button(settings.label, () => this.commit(), { class: 'main' });\n        this.element = this.build();\n        this.update();\n    }\n\n    build() {\n        this.input.addEventListener('keydown', (event) => this.key(event));\n        // Keyboards of telephones tell no keys, so the end of a word is seen in the field too.\n        this.input.addEventListener('input', () => {\n            this.state.isPressed = false;\n            return /\\S[\\s.?]$/.test(this.input.value) ? this.enter(this.input.value) : this.changed();\n        });\n        this.input.addEventListener('paste', (event) => {\n            const text = event.clipboardData.getData('text').slice(0, LONGEST_INPUT).trim();\n            if (/\\s|[.?]$/.test(text)) {\n                event.preventDefault();\n                this.enter(this.input.value + ' ' + text);\n            }\n        });\n        const line = make('div', { class: 'typed', onclick: () => this.focus() }, this.typed, this.input);\n        return make('section', { class: 'editor', 'aria-label': this.settings.title },\n            make('div', { class: 'editor-head' }, make('h2', {}, this.settings.title),\n                make('span', { class: 'quiet keys' }, 'Space or Enter takes a word, arrows choose, Backspace takes one back')),\n            make('div', { class: 'typed-row' }, line, this.ends, this.done, button('Close', () => this.settings.cancel())),\n            this.note, this.extra, this.menu.element);\n    }\n\n    focus() {\n        this.input.focus();\n    }\n\n    clear() {\n        this.tokens = [];\n        this.input.value = '';\n        fill(this.extra);\n        this.update();\n        this.focus();\n    }\n\n    // Says something, with a button to go on by.\n    offer(children, label, action) {\n        const close = () => fill(this.extra);\n        const go = button(label, () => {\n            close();\n            return action();\n        });\n        fill(this.extra, make('div', { class: 'offer', role: 'alert' }, children, make('div', { class: 'row' }, go, button('Not now', close))));\n        go.focus();\n    }\n\n    key(event) {\n        const { value, selectionStart } = this.input;\n        const action = this.actionOf(event, value, selectionStart === value.length);\n        if (action && !event.isComposing && !event.ctrlKey && !event.metaKey && !event.altKey) {\n            event.preventDefault();\n            attempt(action);\n        }\n    }\n\n    actionOf({ key, shiftKey }, value, isAtEnd) {\n        const isEmpty = value === '';\n        const goes = new Map([\n            ['Enter', true], ['Tab', !isEmpty && !shiftKey && !(this.state.isCurrent && this.menu.marked() === null)], [' ', isAtEnd], ['.', isAtEnd], ['?', isAtEnd],\n            ['Backspace', isEmpty], ['ArrowDown', true], ['ArrowUp', true], ['ArrowRight', isAtEnd], ['ArrowLeft', isEmpty], ['Escape', true],\n        ]);\n        const actions = new Map([\n            ['Enter', () => this.pressEnter(value.trim())], ['Tab', () => this.pressEnter(value.trim())], [' ', () => this.enter(value)],\n            ['Backspace', () => this.back()], ['Escape', () => this.escape(isEmpty)],\n            ['ArrowDown', () => this.menu.step(1)], ['ArrowUp', () => this.menu.step(-1)],\n            ['ArrowRight', () => this.menu.stepGroup(1)], ['ArrowLeft', () => this.menu.stepGroup(-1)],\n        ]);\n        return goes.get(key) ? actions.get(key) || (() => this.enter(value + ' ' + key)) : null;\n    }\n\n    // Where the menu hasn't come yet, the key counts when it has.\n    pressEnter(text) {\n        this.state.isPressed = !this.state.isCurrent;\n        if (this.state.isPressed) { return null; }\n        if (text === '' && this.state.isWhole) { return attempt(() => this.commit(), this.done); }\n        const marked = /\\s/.test(text) ? null : this.menu.marked();\n        return marked === null ? this.enter(text) : this.take(marked);\n    }\n\n    take(token) {\n        this.input.value = '';\n        this.tokens.push(token);\n        this.focus();\n        return this.update();\n    }\n\n    // Adds a text that a person typed or pasted; what can't follow comes back to the field.\n    enter(text) {\n        const [first, ...others] = tokensOf(text);\n        if (first === undefined) { return null; }\n        this.input.value = '';\n        this.tokens.push(this.state.isCurrent ? this.menu.spelled(first) : first, ...others);\n        this.focus();\n        return this.update();\n    }\n\n    back() {\n        this.tokens.pop();\n        return this.update();\n    }\n\n    escape(isEmpty) {\n        if (isEmpty && this.tokens.length === 0) { return this.settings.cancel(); }\n        this.input.value = '';\n        return this.changed();\n    }\n\n    changed() {\n        this.input.removeAttribute('aria-invalid');\n        this.menu.filter(this.input.value);\n        this.showNew();\n    }\n\n    // One `parse` at a time, and one more where tokens have changed meanwhile.\n    async update() {\n        Object.assign(this.state, { turn: this.state.turn + 1, isCurrent: false, isPressed: false });\n        this.show();\n        if (this.state.isRunning) { return; }\n        this.state.isRunning = true;\n        await attempt(() => this.follow());\n        Object.assign(this.state, { isRunning: false });\n    }\n\n    async follow() {\n        while (!this.state.isCurrent) {\n            const { turn } = this.state;\n            const isCut = this.tokens.length > MOST_TOKENS;\n            if (isCut) { this.putBack(MOST_TOKENS); }\n            const tokens = this.tokens.slice();\n            const reply = await ask('parse', { text: tokens.join(' ') }).catch((error) => {\n                if (error.is && error.is('NotSentence')) { return error.reply; }\n                fill(this.note, button('Ask for the menu again', () => this.update()));\n                throw error;\n            });\n            if (turn === this.state.turn) { this.judge(reply, tokens, isCut ? `A sentence has at most ${MOST_TOKENS} words and marks, so the first ${MOST_TOKENS} were tried. ` : null); }\n        }\n    }\n\n    judge({ code, k, menu }, tokens, why) {\n        Object.assign(this.state, { isCurrent: true, isWhole: code !== undefined });\n        this.menu.set(menu);\n        fill(this.note, why);\n        if (code === undefined && k < tokens.length) {\n            this.putBack(k);\n            fill(this.note, why, quoted(tokens[k]), k === 0 ? ' can\\'t begin a sentence.' : [' can\\'t stand after ', quoted(textOf(tokens.slice(0, k))), '.']);\n        }\n        this.show();\n        this.menu.filter(this.input.value);\n        this.input.setAttribute('aria-invalid', String(this.note.textContent !== ''));\n        this.showNew();\n        if (this.state.isPressed) { this.pressEnter(this.input.value.trim()); }\n    }\n\n    // The tokens from this place on go back into the field.\n    putBack(place) {\n        this.input.value = (this.tokens.slice(place).join(' ') + ' ' + this.input.value).trim();\n        this.tokens = this.tokens.slice(0, place);\n    }\n\n    show() {\n        const text = textOf(this.tokens);\n        const { isCurrent, isWhole } = this.state;\n        this.typed.textContent = wordOf(this.tokens[0]) ? text : text.charAt(0).toUpperCase() + text.slice(1);\n        this.ends.forEach((end) => end.classList.toggle('lit', isCurrent && this.menu.has(end.textContent) && (this.settings.only || end.textContent) === end.textContent));\n        this.done.classList.toggle('lit', isCurrent && isWhole);\n        this.input.placeholder = isWhole && isCurrent ? 'Enter: ' + this.settings.label : (text === '' ? 'Type or choose a word' : '');\n        this.element.setAttribute('aria-busy', String(!isCurrent));\n    }\n\n    async commit() {\n        if (!this.state.isCurrent || !this.state.isWhole || this.input.value.trim() !== '') {\n            fill(this.note, 'The sentence isn\\'t whole yet. Go on until . or ? lights up, and choose that.');\n        } else if (this.settings.only && this.tokens[this.tokens.length - 1] !== this.settings.only) {\n            fill(this.note, 'This is a statement and no question. A question begins with what, who or which, and ends with a question mark.');\n        } else {\n            await this.settings.commit(this.tokens.slice());\n        }\n    }\n\n    // A word that doesn't exist yet can be added without leaving.\n    showNew() {\n        const text = tokensOf(this.input.value)[0] || '';\n        const isNew = this.state.isCurrent && text !== '' && !isEnd(text) && !wordOf(text) && (this.menu.options.length === 0 || this.input.getAttribute('aria-invalid') === 'true');\n        if (!this.extra.querySelector('form, .offer')) { fill(this.extra, isNew ? button(['Add the word ', quoted(text), '\\u2026'], () => this.addWord(text)) : null); }\n    }\n\n    addWord(text) {\n        const close = () => {\n            fill(this.extra);\n            this.focus();\n        };\n        const form = wordForm({ text }, () => {\n            close();\n            return this.enter(this.input.value);\n        }, close);\n        fill(this.extra, make('div', { class: 'panel' }, form.element));\n        form.focus();\n    }\n}\n"
